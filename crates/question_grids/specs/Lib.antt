-- The definitions.
pub mod Grids
pub mod Steps
pub mod Tables
