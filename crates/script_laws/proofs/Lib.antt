pub mod Makers
pub mod Factoring
pub mod GridLines
pub mod FieldLines
