pub mod Limits
pub mod Causes
pub mod Shelf
pub mod Sink
pub mod Counts
pub mod Host
pub mod MemShelf
pub mod MemSink
