-- Cells that are mended one after the other, row by row, and all of them at the end.
pub mod Gives
pub mod Mended
pub mod Rows
pub mod Runs
