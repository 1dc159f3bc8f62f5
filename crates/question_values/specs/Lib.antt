-- The definitions.
pub mod Counts
pub mod Frequencies
pub mod TpTypes
pub mod Averages
pub mod Rows
