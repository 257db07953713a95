pub mod ColumnSums
pub mod Steps
pub mod Products
pub mod Solutions
pub mod SolutionLaws
pub mod UpperSolutions
pub mod Eliminations
pub mod Halves
pub mod Swaps
mod Examples
