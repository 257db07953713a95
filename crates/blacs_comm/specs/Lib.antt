pub mod Leads
pub mod Moves
pub mod Positions
pub mod Works
