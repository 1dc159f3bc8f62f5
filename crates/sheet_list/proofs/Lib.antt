-- Laws that several proofs cite.
pub mod ListLaws
pub mod ResumeLaws
pub mod BookLaws
