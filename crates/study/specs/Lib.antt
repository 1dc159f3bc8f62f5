pub mod Rooms
pub mod Studies
pub mod Told
