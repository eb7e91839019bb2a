-- What the contracts of `cents` cite: the block call in cents, and that accepted cents have a factor that a block may have.
pub mod Cents
pub mod Allowed
