-- Seconds of the context and of the clip, and the instants of a block.
pub mod Seconds
