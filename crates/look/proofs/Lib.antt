pub mod Counting
pub mod Scans
pub mod Sets
