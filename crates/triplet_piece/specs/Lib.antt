-- The definitions that the contracts cite.
pub mod Layout
pub mod Weights
pub mod Pieces
pub mod Zeros
