pub mod Cuts
pub mod Rows
pub mod Tables
pub mod Numbering
pub mod Filling
pub mod Files
