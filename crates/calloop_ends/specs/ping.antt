-- The definitions that the contracts of `ping` cite.
pub mod Pings
pub mod PingKeeping
