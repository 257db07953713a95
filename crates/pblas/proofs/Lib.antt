pub mod Begin
pub mod Driving
pub mod Loop
