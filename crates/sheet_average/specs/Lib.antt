-- The definition that the contract cites.
pub mod Triplets
