pub mod Puts
pub mod Files
mod Examples
