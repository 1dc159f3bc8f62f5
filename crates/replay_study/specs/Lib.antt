-- The definitions.
pub mod Records
