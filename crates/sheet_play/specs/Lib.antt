-- The definitions that the contracts cite.
pub mod Outcomes
pub mod Rooms
pub mod Lent
