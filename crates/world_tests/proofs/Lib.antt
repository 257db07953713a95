pub mod Turns
pub mod Sound
pub mod OneWord
pub mod FourRanks
pub mod FedStrips
