-- What `trial` starts with, the player that a clip file was sent to, and what it prints (docs/REFERENCE.md, 'trial').
pub mod Loading
pub mod Playing
pub mod Statement
