-- Rows of a table of refusals, in whatever order a call checks them.
pub mod Rows
