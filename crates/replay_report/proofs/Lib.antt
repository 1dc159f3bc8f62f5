-- The laws.
pub mod KindLaws
