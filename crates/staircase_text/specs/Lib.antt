-- What the contracts of `staircase_text` cite: the text of a staircase.
pub mod Text
