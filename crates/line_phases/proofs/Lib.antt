mod Ranges
mod LastTakes
pub mod NextJob
pub mod StillStands
pub mod MatrixLayout
pub mod BeforeLine
pub mod PrintSlots
pub mod PrintedName
pub mod PrintTakes
pub mod DropLine
pub mod PrintLine
pub mod MatrixLine
