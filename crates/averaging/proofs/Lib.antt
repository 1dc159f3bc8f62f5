-- The laws.
pub mod AnswerLaws
pub mod EntryLaws
