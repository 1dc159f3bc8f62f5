-- The definitions.
pub mod Studies
pub mod Calls
