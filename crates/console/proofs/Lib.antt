pub mod Reading
pub mod Handed
pub mod Printing
pub mod Filling
