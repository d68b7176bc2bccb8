-- What is lent of the buffers.
pub mod Rooms
