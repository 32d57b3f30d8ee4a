pub mod Numbers
pub mod Scan
pub mod Sets
