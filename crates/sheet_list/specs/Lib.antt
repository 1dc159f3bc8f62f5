-- The definitions that the contracts cite.
pub mod Play
pub mod Booked
