-- The definitions.
pub mod Flags
