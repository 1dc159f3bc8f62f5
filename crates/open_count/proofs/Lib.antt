-- Laws that several proofs cite.
pub mod OpenLaws
pub mod ZeroLaws
