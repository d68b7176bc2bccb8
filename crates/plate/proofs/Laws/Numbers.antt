-- Numbers that wrap, and a part of a list that is cleared.
pub mod Wraps
pub mod Parts
