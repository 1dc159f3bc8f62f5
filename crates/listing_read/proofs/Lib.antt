pub mod RestoredLaws
