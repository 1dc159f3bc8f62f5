-- The laws.
pub mod FlagLaws
