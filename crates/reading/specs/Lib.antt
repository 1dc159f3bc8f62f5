pub mod Passed
pub mod Passes
