pub mod RowLaws
pub mod LineLaws
