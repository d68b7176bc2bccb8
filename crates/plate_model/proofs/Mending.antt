-- The cells that a change reaches.
pub mod Reached
