-- The definitions.
pub mod Weights
