-- The laws.
pub mod NumberLaws
