pub mod Values
pub mod Ready
pub mod Solved
pub mod Errors
