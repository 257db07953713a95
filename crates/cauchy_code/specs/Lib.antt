pub mod Cauchy
pub mod Solving
