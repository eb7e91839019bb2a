-- What the proofs of `lent` share.
mod Mute
