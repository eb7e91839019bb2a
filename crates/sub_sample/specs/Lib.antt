-- What the contracts of `sub_sample` cite: a sub-sample block sample by sample, and what its samples play.
pub mod SubSample
pub mod Infos
