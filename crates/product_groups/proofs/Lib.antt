mod Mixing
pub mod May
mod After
pub mod Next
mod Holding
pub mod Begin
pub mod End
pub mod Stopped
