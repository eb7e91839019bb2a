-- What the contracts of `detune_table` cite: the numbers that are found, their text, and that they are the table.
pub mod Bounds
pub mod Text
pub mod Statement
