pub mod Broken
pub mod Places
pub mod Passing
pub mod Keeping
pub mod Telling
pub mod ScriptLoop
pub mod Codes
