-- What contracts inside this crate use; no contract of a public function and no statement of a model cites it.
pub mod Written
pub mod Room
pub mod Performed
pub mod Lending
