-- Laws that the proofs use.
pub mod CarryLaws
