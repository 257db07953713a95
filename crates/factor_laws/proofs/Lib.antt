pub mod Triangles
pub mod Factors
pub mod Exchanges
pub mod Solves
pub mod Products
pub mod Matrices
pub mod Transposes
pub mod Sides
pub mod Unique
mod Examples
