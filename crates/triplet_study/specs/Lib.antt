-- The definitions that the contracts cite.
pub mod Study
pub mod Questions
pub mod Tested
pub mod Lent
pub mod Passed
