-- The laws.
pub mod Starred
