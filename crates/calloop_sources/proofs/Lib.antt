pub mod Calling
pub mod Marked
pub mod Asked
pub mod DeadlineSetting
