-- Bytes fed call by call.
pub mod Fronts
