-- The laws that the proofs of `pcm` share.
mod Words
mod Quotients
mod Computed
