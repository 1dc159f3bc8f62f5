-- The definitions.
pub mod Ask
pub mod Refusals
pub mod Lent
