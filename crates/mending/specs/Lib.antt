-- What the contracts of `mending` cite: what mending a clip file answers and writes, what is known where the checks pass, and what holds of
-- mended files.
pub mod Mending
pub mod Passed
pub mod Held
pub mod Statement
pub mod Known
