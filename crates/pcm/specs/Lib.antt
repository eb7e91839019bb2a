-- What the contracts of `pcm` cite: samples of whole numbers, what taking a channel of them answers, and what is stated of them.
pub mod WholeNumbers
pub mod Taking
pub mod Statement
