pub mod Standing
pub mod Listing
pub mod Laying
pub mod Marking
pub mod Packing
pub mod Clearing
pub mod Rows
