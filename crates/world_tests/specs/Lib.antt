pub mod Play
pub mod OneMatrix
pub mod OneWord
pub mod FourRanks
pub mod FedStrips
