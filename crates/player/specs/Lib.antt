-- What the contracts of `player` cite: what the player is, and what each of its calls does.
pub mod Record
pub mod Messages
pub mod Reports
pub mod Factor
pub mod Block
