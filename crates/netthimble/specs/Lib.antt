-- What the calls for C answer.
pub mod ForC
pub mod Staircases
pub mod Counters
pub mod Mending
