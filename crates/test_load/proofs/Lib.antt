-- Laws that a reader and the proofs use.
pub mod LoadLaws
pub mod Computed
