-- The definitions that the contracts cite.
pub mod Weights
pub mod Lent
pub mod Calls
