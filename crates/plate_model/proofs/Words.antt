-- The pixel word and the log entry: what is packed is read back, and what is stored is read where it breaks nothing; so both ways
-- are inverse.
pub mod Words
pub mod Stored
pub mod Inverse
