-- The tape, and what follows of it.
pub mod Tape
pub mod Statement
pub mod Known
