-- The tolerances as a record, and what its making and its tests answer on known numbers.
pub mod Tolerances
pub mod Known
