-- What a kernel is made of: the numbers of its shape, its taps, their sum, its share in the table, and its rows.
pub mod ShapeNumbers
pub mod TapForms
pub mod BoxTaps
pub mod Columns
pub mod Areas
pub mod TableRows
pub mod Shares
pub mod Bands
