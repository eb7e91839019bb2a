-- What the contracts of `buffer` cite: refusals, limits, answers, where channels lie, one definition of each copy, and known frames.
pub mod Refusals
pub mod Limits
pub mod Answers
pub mod Channels
pub mod Copies
pub mod Known
