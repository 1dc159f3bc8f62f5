-- The definitions.
pub mod Fields
pub mod Stamps
