pub mod Named
pub mod EachCommand
pub mod AcceptedGrids
pub mod AcceptedLayouts
pub mod AcceptedSound
mod Placed
mod Prints
mod Driving
mod Commands
mod DropLine
mod MatrixLine
mod LineByLine
