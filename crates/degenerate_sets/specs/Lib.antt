-- The definitions.
pub mod Sets
pub mod Blocks
pub mod Turns
pub mod Walks
pub mod Averages
