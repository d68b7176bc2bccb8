-- The thin lens formula: what a lawful lens keeps to, and the size of its products.
pub mod ThinLens
