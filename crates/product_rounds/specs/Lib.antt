pub mod Rounds
pub mod Standing
pub mod Groups
