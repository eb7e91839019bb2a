-- The laws that the proofs of `counting` share; then what is claimed.
pub mod Shapes
pub mod Frames
mod Counts
mod Known
