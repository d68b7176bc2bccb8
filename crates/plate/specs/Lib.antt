-- What contracts inside this crate use; no contract of a public function and no statement of a model cites it.
pub mod Frame
pub mod Asking
pub mod Laying
pub mod Board
pub mod Lending
pub mod Exchange
pub mod Filling
pub mod Given
pub mod Passes
pub mod Showing
pub mod Keeping
pub mod Totalling
pub mod Mending
