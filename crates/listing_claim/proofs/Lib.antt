pub mod RecordLaws
pub mod ReadBack
