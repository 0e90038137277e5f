-- The definitions that the contracts of `stream` cite.
pub mod StreamReads
pub mod Streams
pub mod StreamKeeping
