-- Fields of a word.
pub mod Fields
