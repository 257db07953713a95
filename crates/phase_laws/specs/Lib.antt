pub mod Columns
pub mod Search
