-- Laws that the proofs of functions cite.
pub mod Numbers
pub mod Checks
pub mod Words
pub mod Laying
pub mod Mending
pub mod Filling
pub mod Showing
