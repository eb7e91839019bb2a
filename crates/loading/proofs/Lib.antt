-- The laws that `load` cites.
mod Frames
pub mod Fronts
mod Telling
mod ClipsPlay
