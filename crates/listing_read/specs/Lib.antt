-- The definitions that the contracts cite.
pub mod Restored
pub mod Reading
pub mod Forms
