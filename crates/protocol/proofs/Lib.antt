-- Lemmas on digits that are read one by one, on words as numbers, on hex digits, and on the words of a line.
pub mod Digits
pub mod Tests
pub mod Hex
pub mod Cuts
