pub mod FieldLaws
pub mod PieceLaws
pub mod RoundTrip
pub mod SpelledLaws
