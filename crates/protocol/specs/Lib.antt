-- What the contracts of `protocol` cite: a word as a number, the words of a line, those of a buffer and of a call, and a line as an order.
pub mod Numbers
pub mod Words
pub mod Sizes
pub mod Calls
pub mod Orders
