pub mod TotalLaws
pub mod DigitLaws
pub mod LongestLaws
pub mod ListingLengthLaws
