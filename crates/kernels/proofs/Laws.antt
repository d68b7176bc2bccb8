-- Laws that only the functions need.
pub mod Bands
pub mod Shares
pub mod Rounding
pub mod Lenses
