-- The laws.
pub mod TableLaws
