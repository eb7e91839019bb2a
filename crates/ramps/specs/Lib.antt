-- Ramps: the factor of each sample, what a block's samples become, and what follows of the factors.
pub mod Ramps
pub mod Factors
pub mod Laws
pub mod Known
