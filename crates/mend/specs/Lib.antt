-- What the program `mend` writes.
pub mod Told
