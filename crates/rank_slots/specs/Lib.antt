pub mod Cells
pub mod Rank
pub mod Shapes
pub mod Stands
pub mod Undone
pub mod Lost
