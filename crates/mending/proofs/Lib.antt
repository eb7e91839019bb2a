-- The laws of mended files.
mod Frames
mod Again
mod Marked
pub mod MendedClips
mod Known
mod Fields
