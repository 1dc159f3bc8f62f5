-- The definitions.
pub mod Choice
