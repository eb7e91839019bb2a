-- The laws that the proofs of `obeying` share; those of `session` cite the lengths.
mod Accepted
pub mod Front
pub mod Lengths
mod Replies
mod Late
