-- What stops a run, and the statements about whole inputs: from bytes to text, in any cut, and the worked example of the paper.
pub mod Stopping
pub mod EndToEnd
pub mod AnyCut
pub mod Worked
