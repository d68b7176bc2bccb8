-- The marks of every kernel, finished, are its weights: lines, what lies between two of them, and grids of boxes.
pub mod MarkLists
pub mod LineFact
pub mod Outlines
pub mod BoxGrids
pub mod Kernel
