-- The laws that the proofs of `commands` share.
pub mod Lengths
pub mod Hex
pub mod Texts
