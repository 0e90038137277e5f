-- What the contracts of this crate use.
pub mod Passes
pub mod Cells
pub mod Bells
pub mod Channels
pub mod Tasks
pub mod Executors
pub mod Boards
pub mod Posts
pub mod Watches
pub mod BoardNotes
pub mod Marks
pub mod Homes
pub mod Locks
pub mod LockLendings
