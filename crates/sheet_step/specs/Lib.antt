-- The definitions that the contracts cite.
pub mod Steps
pub mod Lent
