-- The laws.
pub mod RecordLaws
