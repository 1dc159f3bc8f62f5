-- The definitions.
pub mod Content
pub mod Open
pub mod Counted
pub mod Kinds
