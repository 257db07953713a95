pub mod Routines
pub mod Rules
pub mod Told
pub mod Counted
pub mod Runs
pub mod Flipping
