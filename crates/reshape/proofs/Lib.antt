-- The laws that the proofs of `reshape` share.
mod Partings
mod Conversions
mod Places
mod Blocks
