pub mod Sorted
pub mod Scanned
pub mod Bursts
pub mod BurstsSeen
pub mod Spared
pub mod NeverCut
