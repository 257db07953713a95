pub mod Held
pub mod Multiplying
