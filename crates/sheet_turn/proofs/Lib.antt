-- Laws that several proofs cite.
pub mod TurnLaws
