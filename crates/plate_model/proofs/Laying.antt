-- Marks laid in the planes: what a cell then holds.
pub mod LaidCells
pub mod Cells
