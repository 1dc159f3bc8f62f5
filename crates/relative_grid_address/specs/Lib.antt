-- The definitions.
pub mod Diagonal
pub mod Answer
pub mod Whole
