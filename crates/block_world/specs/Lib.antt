pub mod Did
pub mod Kept
pub mod Log
pub mod Ranks
pub mod Replay
pub mod Rounds
pub mod World
