-- The paper's starred examples, and taps and marks worked out by hand.
pub mod Starred
pub mod ByHand
