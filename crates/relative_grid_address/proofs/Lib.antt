-- The laws.
pub mod DiagonalLaws
pub mod WholeDiagonalLaws
