-- Laws that several proofs cite.
pub mod OrderedLaws
pub mod BoxLaws
