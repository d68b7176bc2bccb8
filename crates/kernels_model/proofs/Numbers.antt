-- Numbers by a test, bounds of products, and rounding to the nearest.
pub mod Choices
pub mod Products
pub mod Nearest
