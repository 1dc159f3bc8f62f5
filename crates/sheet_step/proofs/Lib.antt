-- Laws that several proofs cite.
pub mod CountLaws
pub mod StepLaws
pub mod EntryLaws
