-- The laws.
pub mod AverageLaws
pub mod CountLaws
pub mod RowsLaws
pub mod TypeLaws
