pub mod AnswerLaws
pub mod HeldLaws
pub mod NanLaws
pub mod TableLaws
