-- The laws.
pub mod DeterminantLaws
pub mod RowLaws
pub mod SideLaws
