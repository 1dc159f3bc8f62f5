-- The theorems.
pub mod SameTables
pub mod WayLaws
