pub mod Touched
pub mod Capped
pub mod GroupLaws
pub mod SlotSums
