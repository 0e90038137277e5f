pub mod CellTurns
pub mod Pinging
pub mod Polling
pub mod Reading
pub mod Receiving
pub mod Registered
