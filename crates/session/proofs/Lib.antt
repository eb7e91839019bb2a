-- The laws that the proofs of `session` share.
mod Stores
pub mod KnownBytes
mod Bytes
mod Chunks
pub mod Written
