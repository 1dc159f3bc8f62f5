-- The definitions.
pub mod Ring
pub mod Expression
pub mod Polynomial
pub mod Rational
