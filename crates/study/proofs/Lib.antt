pub mod StudyLaws
