-- The definitions that the contracts cite.
pub mod Normal
pub mod Copies
