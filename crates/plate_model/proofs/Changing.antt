-- What a put and an undo read of a plate, and what they may count on then.
pub mod Changes
