pub mod Inside
pub mod Counting
pub mod Flipping
pub mod Before
pub mod ToldLines
