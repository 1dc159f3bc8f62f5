-- The definitions.
pub mod Density
pub mod States
