-- The definitions that the contracts cite.
pub mod Channels
pub mod Ordered
