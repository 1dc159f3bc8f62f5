-- The laws.
pub mod RowLaws
