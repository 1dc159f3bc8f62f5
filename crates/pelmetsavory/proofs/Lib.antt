-- Laws that the proofs use.
pub mod CallLaws
pub mod SheetLaws
