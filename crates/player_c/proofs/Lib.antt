-- The laws that the proofs of `player_c` share.
mod Numbers
mod Turns
