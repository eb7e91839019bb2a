-- What the contracts of `aligned` cite: an aligned block's frames, and the position after it.
pub mod Aligned
