-- What the contracts of `player_c` cite: what the measured run of blocks leaves.
pub mod Playing
