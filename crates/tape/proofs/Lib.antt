-- The tapes to follow by hand, and laws of the tape.
pub mod Known
pub mod Heads
pub mod Laws
pub mod Premise
