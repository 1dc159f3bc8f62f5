-- The laws.
pub mod RingLaws
pub mod PolynomialLaws
pub mod IntegerLaws
pub mod RationalLaws
