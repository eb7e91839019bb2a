-- What the contracts of `staircase` cite: the procedure, the reversals of a list of levels, the laws, and known staircases.
pub mod Reversals
pub mod Staircase
pub mod Statement
pub mod Known
