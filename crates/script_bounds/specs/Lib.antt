pub mod Steps
pub mod Bounds
pub mod Accepted
pub mod Flipping
