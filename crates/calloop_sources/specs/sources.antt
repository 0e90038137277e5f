-- What the contracts of `sources` cite.
pub mod Actions
pub mod Calls
pub mod Deeds
pub mod Holdings
pub mod Meanings
pub mod Quiet
pub mod SetDeadlines
pub mod Beside
pub mod Lawful
