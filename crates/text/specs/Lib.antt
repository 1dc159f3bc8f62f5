pub mod Fields
pub mod Pieces
pub mod Spelled
