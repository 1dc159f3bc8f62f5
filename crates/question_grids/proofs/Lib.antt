-- The laws.
pub mod GridLaws
pub mod StepLaws
pub mod TableLaws
