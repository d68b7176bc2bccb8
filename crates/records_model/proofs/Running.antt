-- A machine fed byte by byte, and a part of the input fed to it in one call.
pub mod Feeding
pub mod Advancing
