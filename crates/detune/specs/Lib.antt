-- What the contracts of `detune` cite: the table, its rule, and the factor of whole cents.
pub mod Table
pub mod Detune
pub mod Counted
pub mod Statement
