-- Text written into a slice: one piece after another, the digits of a number, and the rows of a show.
pub mod Slices
pub mod Decimals
pub mod Rows
