-- The definitions.
pub mod Book
pub mod Lists
pub mod Counts
pub mod Marked
pub mod Done
pub mod Workers
