-- The laws.
pub mod AgreeLaws
