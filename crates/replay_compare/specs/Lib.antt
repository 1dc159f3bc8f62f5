-- The definitions.
pub mod Sameness
