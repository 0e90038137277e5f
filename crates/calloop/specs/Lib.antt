pub mod Timeouts
