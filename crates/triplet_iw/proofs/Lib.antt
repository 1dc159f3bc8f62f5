-- Laws that several proofs cite.
pub mod TripletLaws
pub mod WholeLaws
pub mod CallLaws
