pub mod Touching
pub mod Groups
