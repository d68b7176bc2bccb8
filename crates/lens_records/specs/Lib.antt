-- What the contracts of this program use, which say what is proved of it; it has no public function.
pub mod Feeding
