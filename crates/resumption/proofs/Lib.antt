pub mod Edges
pub mod Lines
pub mod FirstMet
