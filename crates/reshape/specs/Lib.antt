-- What the contracts of `reshape` cite: one definition of each call, its answers, and the known frames about conversion.
pub mod Fitting
pub mod Joining
pub mod Parting
pub mod Converting
pub mod Places
pub mod Known
