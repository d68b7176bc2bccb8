-- Bounds of a plate's products, and laws of lists.
pub mod Extents
pub mod Lists
