-- The definitions that the contracts of `futures` cite.
pub mod Polled
pub mod Executors
pub mod ExecutorKeeping
