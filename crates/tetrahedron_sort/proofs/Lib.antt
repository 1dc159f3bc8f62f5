-- The laws.
pub mod SortLaws
