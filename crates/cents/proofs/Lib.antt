-- The laws that the proofs of `cents` share.
pub mod Same
mod Answered
