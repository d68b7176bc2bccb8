-- The invariant: while the front of the buffers mirrors the notebook, each record does the same to both.
pub mod Invariant
pub mod Acts
