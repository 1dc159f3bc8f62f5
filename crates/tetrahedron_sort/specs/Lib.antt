-- The definitions.
pub mod Sort
