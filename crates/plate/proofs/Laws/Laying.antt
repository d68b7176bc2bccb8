-- Marks laid by the code: what a mark is worth, and that the code's drawing is the pixel's marks.
pub mod Amounts
pub mod Corners
