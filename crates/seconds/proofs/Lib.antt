-- The laws that the proofs of `seconds` share.
mod Block
