pub mod NextLine
pub mod UpTo
