-- What the contracts of `tolerances` rest on.
pub mod Known
