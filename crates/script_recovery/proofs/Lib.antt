pub mod GridsAt
pub mod StillThere
pub mod LiveMost
pub mod MarksMost
pub mod FactoredLines
