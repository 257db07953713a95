pub mod Columns
pub mod Terms
pub mod CodeLaws
pub mod Searches
pub mod KernelLaws
pub mod Diagonals
mod Worked
