pub mod Listings
pub mod Sheets
