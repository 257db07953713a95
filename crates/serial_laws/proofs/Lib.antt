pub mod CommandsLeft
pub mod SerialReady
pub mod SerialRun
