-- The definitions.
pub mod Tables
