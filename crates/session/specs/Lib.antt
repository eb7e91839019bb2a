-- What the bytes of an input do to the player and print (docs/REFERENCE.md, 'trial').
pub mod Feeding
pub mod Transcript
pub mod Running
pub mod Statement
