pub mod Sets
pub mod Steps
pub mod Turns
pub mod Whole
