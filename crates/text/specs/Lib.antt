-- What the contracts of `text` cite: the lines of a block, and how they are stored.
pub mod Stored
pub mod Lines
