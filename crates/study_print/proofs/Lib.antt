pub mod LineLaws
pub mod FieldLaws
pub mod StudyTextLaws
pub mod OnlyLaws
pub mod StudyOnlyLaws
pub mod LengthLaws
