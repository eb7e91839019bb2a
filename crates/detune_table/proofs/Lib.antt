-- The laws that the proofs of `detune_table` share.
pub mod Steps
pub mod Found
pub mod Lines
