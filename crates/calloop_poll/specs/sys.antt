-- Definitions that the contracts of `sys` cite.
pub mod Pollers
pub mod Tables
pub mod Batches
pub mod Polls
pub mod Events
pub mod SocketCalls
pub mod Hubs
pub mod Keys
pub mod WrongSteps
pub mod SlotOrder
pub mod TakenMarks
pub mod Waits
pub mod Synthetics
