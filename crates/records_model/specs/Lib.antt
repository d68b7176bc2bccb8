pub mod Fixed
pub mod Text
pub mod Record
pub mod Run
pub mod Stops
pub mod Machine
pub mod Promises
