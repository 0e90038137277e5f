pub mod cell
pub mod ping
pub mod channel
pub mod futures
pub mod stream
