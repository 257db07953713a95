pub mod Blocks
pub mod Scales
pub mod Group
pub mod Words
pub mod Standing
