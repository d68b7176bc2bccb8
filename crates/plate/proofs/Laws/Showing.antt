-- Show's sums, row by row, and the pictures that they give: how a loop writes rows of cells, where a channel's sums lie, one row
-- of them, the lines of a slope from row to row, all sums one row further, the rising lines before the first row, both channels
-- side by side, the image, its sums where they are kept, and all finished cells added up.
pub mod Writes
pub mod Starts
pub mod RowSums
pub mod SlopeLines
pub mod NextRow
pub mod RisingStart
pub mod BothChannels
pub mod Image
pub mod Keeping
pub mod Totals
