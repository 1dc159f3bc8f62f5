-- The definitions.
pub mod Points
