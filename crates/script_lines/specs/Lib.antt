pub mod Layouts
pub mod Lines
pub mod Live
pub mod Sound
