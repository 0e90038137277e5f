pub mod Editing
pub mod Frames
pub mod Gathering
pub mod Index
pub mod Stepping
pub mod Waiting
