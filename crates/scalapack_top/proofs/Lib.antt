pub mod OneRead
pub mod Steps
pub mod Files
pub mod Answered
pub mod Runnable
pub mod Fields
