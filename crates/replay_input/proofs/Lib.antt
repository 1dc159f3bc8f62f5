-- The laws.
pub mod FieldLaws
pub mod ReaderLaws
pub mod FlagLaws
