pub mod Jobs
pub mod Matrices
pub mod ProductLine
pub mod Ways
pub mod May
pub mod Records
pub mod Between
