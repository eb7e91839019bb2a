-- What the proofs of `netthimble` share.
mod Moved
