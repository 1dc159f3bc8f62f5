-- The definitions.
pub mod Numbers
