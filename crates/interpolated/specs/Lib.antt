-- What the contracts of `interpolated` cite: the bits of a sub-sample block's samples.
pub mod Interpolated
