-- The definitions.
pub mod Meaning
