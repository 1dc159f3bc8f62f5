-- Laws that several proofs cite.
pub mod BytesLaws
pub mod MarkLaws
