-- The definitions.
pub mod Ways
pub mod Rows
