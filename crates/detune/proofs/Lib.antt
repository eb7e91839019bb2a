-- The laws that the proofs of `detune` share; those of `cents` cite the factor's range.
mod Rule
mod Signed
mod Quotient
mod Single
mod Exact
pub mod Range
