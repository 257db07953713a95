pub mod Panels
pub mod CodeLaw
pub mod Solves
pub mod Whole
pub mod Strips
