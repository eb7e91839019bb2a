-- The laws that the proofs of `aligned` share.
mod Turning
