-- The laws that the proofs of `staircase` share.
pub mod Turning
pub mod Marks
pub mod Tracks
pub mod Threshold
pub mod Laws
pub mod Known
