-- The definitions.
pub mod Rows
pub mod Faces
pub mod Cones
pub mod Corners
pub mod Questions
