pub mod Ways
pub mod Outcomes
pub mod Costs
pub mod Mended
pub mod Attempts
