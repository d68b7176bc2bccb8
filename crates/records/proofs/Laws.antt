-- Laws that the proofs of functions cite.
pub mod Writing
pub mod Calls
pub mod Lending
