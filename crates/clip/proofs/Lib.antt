-- The laws that the proofs of `clip` share, some of them with those of the crates above it.
pub mod Numbers
pub mod Words
pub mod Each
pub mod LaidOut
pub mod RoundTrip
mod Accepted
mod WriteWords
pub mod HeaderWords
mod Writable
mod TwoReaders
pub mod WrittenClips
pub mod Longest
pub mod Known
