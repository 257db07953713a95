pub mod Matrices
pub mod PartLaws
pub mod Fills
pub mod Lines
pub mod Columns
pub mod ColumnWords
