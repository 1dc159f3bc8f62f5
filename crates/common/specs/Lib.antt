-- The definitions.
pub mod Matrix
