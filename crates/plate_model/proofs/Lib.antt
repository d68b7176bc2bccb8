pub mod Numbers
pub mod Checks
pub mod Words
pub mod Laying
pub mod Changing
pub mod Mending
pub mod Demands
pub mod Promises
