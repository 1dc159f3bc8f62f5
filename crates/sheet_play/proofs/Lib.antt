-- Laws that several proofs cite.
pub mod KeptLaws
pub mod OutcomeLaws
