pub mod Schedules
pub mod Turns
pub mod Lawful
pub mod ChannelLawful
pub mod ExecutorLawful
pub mod BothLawful
pub mod Delivery
pub mod Delivered
