pub mod Until
pub mod PrintedFrom
pub mod Between
pub mod WholeRun
pub mod Inside
