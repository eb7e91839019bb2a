-- The laws that the proofs of `buffer` share; those on rows of checks serve the crates above it too.
pub mod Checks
mod Moved
mod Rates
