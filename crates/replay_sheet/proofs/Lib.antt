-- The laws.
pub mod ContentLaws
