pub mod Text
pub mod Serial
pub mod Elimination
pub mod Solves
pub mod Transposes
pub mod Wrong
