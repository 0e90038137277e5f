pub mod Clocks
pub mod SystemEvents
pub mod SystemPollers
pub mod SystemSockets
pub mod Portions
