pub mod MendLaws
pub mod DataRounds
pub mod CodeRounds
pub mod RowRounds
pub mod StateRounds
pub mod HealedCommits
pub mod ListRounds
pub mod Stays
pub mod Counts
mod Worked
