pub mod JobAt
pub mod Left
pub mod Lookups
mod Tables
pub mod TableLaws
