-- Laws that several proofs cite.
pub mod WeightLaws
pub mod CallLaws
