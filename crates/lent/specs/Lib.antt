-- What the player's calls for C answer, and the player of a refused rate.
pub mod Lent
pub mod Nobody
