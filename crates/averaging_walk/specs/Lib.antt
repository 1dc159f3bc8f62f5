-- The definitions.
pub mod Parts
