-- The law that the proof of `write_channel` cites.
mod Front
