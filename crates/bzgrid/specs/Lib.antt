-- The definitions that the contracts cite.
pub mod Lists
pub mod Calls
