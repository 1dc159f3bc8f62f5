-- A law for readers, which no proof uses.
pub mod ReadLaws
