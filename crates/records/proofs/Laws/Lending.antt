-- The one path to the plate, and room for the text of a show.
pub mod Requests
pub mod ShowFits
