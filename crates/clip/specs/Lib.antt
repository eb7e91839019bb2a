-- What the contracts of `clip` cite: the layout of a clip file, what reading one answers, and what writing one does; and what is known
-- where the checks pass.
pub mod Layout
pub mod Reading
pub mod Passed
pub mod Writing
pub mod Statement
pub mod Known
