-- The laws.
pub mod CallLaws
