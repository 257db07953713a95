pub mod Modular
pub mod Sums
pub mod Inverses
pub mod WeightedSums
pub mod Computing
