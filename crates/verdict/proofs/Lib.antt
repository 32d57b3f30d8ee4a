pub mod Told
pub mod Loads
pub mod Writing
