-- What the contracts of `commands` cite: numbers as digits, the lines that a program obeys, and that these are the commands' texts.
pub mod Digits
pub mod Commands
pub mod Statement
