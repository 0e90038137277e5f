pub mod Counting
mod Gone
mod Moments
pub mod Noting
pub mod Owning
pub mod Rights
pub mod Served
pub mod Reuse
pub mod Tickets
pub mod Listing
pub mod Homes
pub mod Freshness
pub mod Histories
pub mod Handing
pub mod Tying
pub mod Calling
pub mod Sent
pub mod Queued
pub mod Refuting
