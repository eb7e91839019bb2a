-- What one line of `trial` does to the player and prints (docs/REFERENCE.md, 'trial').
pub mod Obeying
pub mod Statement
