pub mod Matrix
pub mod Parts
pub mod Columns
pub mod Script
pub mod Files
pub mod Text
pub mod Flips
