-- The laws that the proofs of `text` share.
pub mod Texts
pub mod Runs
pub mod Lengths
