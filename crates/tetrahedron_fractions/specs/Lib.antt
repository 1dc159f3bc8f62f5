-- The definitions.
pub mod Binary64
pub mod Small
pub mod Binary
pub mod Branch
pub mod Fraction
