-- What a byte and a call leave, and where a call of advance stands after each byte.
pub mod Texts
pub mod Reached
