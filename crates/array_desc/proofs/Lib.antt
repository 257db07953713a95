pub mod Quotients
pub mod MapLaws
pub mod CountLaws
pub mod GroupLaws
