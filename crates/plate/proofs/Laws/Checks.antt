-- What checks in a row say, what the code may count on when they accept, and lists scanned for a number that passes a test.
pub mod Chains
pub mod Frames
pub mod Told
pub mod Asked
pub mod Lengths
pub mod Scans
