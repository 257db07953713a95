pub mod Spots
pub mod Copies
