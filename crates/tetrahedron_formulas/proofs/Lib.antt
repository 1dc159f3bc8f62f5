-- The laws.
pub mod ChoiceLaws
