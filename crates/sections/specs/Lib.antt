pub mod Lines
pub mod Left
