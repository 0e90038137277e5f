-- The definitions that the contracts of `channel` cite.
pub mod Sends
pub mod Channels
pub mod ChannelKeeping
