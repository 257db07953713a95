pub mod Seams
pub mod Spotted
pub mod Copying
