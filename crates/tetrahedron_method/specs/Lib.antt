-- The definitions.
pub mod Weight
pub mod Sorted
pub mod Answer
