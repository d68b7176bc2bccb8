-- Demand 1: every call answers by its rows of the table. Demand 3 and demand 2: the plate mirrors the notebook through every list
-- of calls.
-- Refresh under the brush: mended sums and pictures are those of the plate, call after call, and so plain spreading.
-- Light is neither made nor lost: what a plate holds in all is what the notebook's pixels had.
-- What lists of calls are refused for, and how many marks they report. The paper's record run, and a plate worked out by hand.
pub mod Answers
pub mod PlainSums
pub mod Logs
pub mod Mirror
pub mod Fills
pub mod Demand
pub mod Unwrapped
pub mod Exchanges
pub mod Paintings
pub mod Squares
pub mod FlatLayers
pub mod Balance
pub mod EachReports
pub mod Reports
pub mod Refusals
pub mod Worked
pub mod WorkedPlate
