pub mod Standing
pub mod Products
pub mod Exchanges
pub mod Searches
