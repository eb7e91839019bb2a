-- The laws that the proofs of `fused` share.
mod Align
mod Bounds
mod Double
mod Finite
mod Jam
mod NearTie
mod Product
mod Side
mod Twice
mod Untied
