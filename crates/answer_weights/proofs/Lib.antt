pub mod ReadyLaws
pub mod ListedLaws
