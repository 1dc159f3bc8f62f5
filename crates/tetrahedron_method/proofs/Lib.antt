-- The laws.
pub mod RowLaws
pub mod SortedLaws
