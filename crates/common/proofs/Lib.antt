-- The laws.
pub mod MatrixLaws
