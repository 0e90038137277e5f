pub mod AdapterKeeping
pub mod AdapterNotes
pub mod AdapterStates
pub mod Adapters
pub mod AsyncPolls
pub mod Refusals
pub mod TakingUp
pub mod WholePolls
