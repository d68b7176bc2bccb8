pub mod Reading
pub mod Lending
pub mod Standing
pub mod Running
pub mod Statements
pub mod Promises
