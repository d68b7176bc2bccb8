-- Answers by rows of the table of refusals, that each check keeps to its row, and what a call may count on when they accept.
pub mod Rows
pub mod Conditions
pub mod Passed
pub mod Accepted
