pub mod Driven
pub mod Steps
