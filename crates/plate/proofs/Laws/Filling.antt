-- A plate filled pixel by pixel.
pub mod Filling
