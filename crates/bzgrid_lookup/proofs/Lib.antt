-- Laws that several proofs cite.
pub mod NeighbourLaws
pub mod CallLaws
