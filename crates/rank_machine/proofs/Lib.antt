pub mod Runs
pub mod Base
pub mod Agree
pub mod Jobs
mod Checks
mod Terms
mod Parts
mod Smallest
mod Decoded
mod Factored
mod FactoredSingular
mod FactoredLost
mod FactoredRows
mod NarrowPanel
mod Multiplied
mod Backwards
mod Redistributed
mod Solved
mod SpoiledCommits
mod SpoiledKernels
mod SpoiledSteps
mod SpoiledPanels
mod Refused
mod Edges
