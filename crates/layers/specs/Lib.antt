pub mod Layout
pub mod Packed
