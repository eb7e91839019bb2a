-- The laws that the proofs of `player` share.
pub mod Written
mod Sampled
mod Ramped
mod Limits
pub mod Refused
