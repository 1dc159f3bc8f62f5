pub mod PassedLaws
pub mod DigitLaws
pub mod RowLaws
pub mod ReaderLaws
