-- What the contracts of `counting` cite.
pub mod Counting
pub mod Statement
pub mod Known
