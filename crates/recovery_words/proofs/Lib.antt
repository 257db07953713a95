pub mod Rooms
pub mod Beginnings
pub mod EventSizes
pub mod RowSizes
