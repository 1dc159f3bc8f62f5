-- Laws that several proofs cite.
pub mod SumLaws
pub mod CopyLaws
