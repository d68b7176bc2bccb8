-- Where the marks of a kernel lie, and that a drawing as the code hands it out has these marks.
pub mod MarkPlaces
pub mod Drawings
