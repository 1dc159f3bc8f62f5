-- Laws that several proofs cite.
pub mod StudyLaws
pub mod TestedLaws
