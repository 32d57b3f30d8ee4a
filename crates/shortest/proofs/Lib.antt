pub mod Standing
pub mod Looking
pub mod Levels
pub mod Searching
pub mod Trying
pub mod Rooting
