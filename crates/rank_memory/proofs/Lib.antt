pub mod Areas
pub mod Changes
pub mod RowLaws
pub mod TakenOut
pub mod Transposes
