pub mod Runnable
pub mod Orders
pub mod Strips
pub mod Driving
