pub mod Strips
pub mod Products
pub mod Exchanges
pub mod Searches
