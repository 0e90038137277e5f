pub mod Adapting
pub mod Wholes
