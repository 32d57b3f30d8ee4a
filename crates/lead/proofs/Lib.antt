pub mod Asking
pub mod Filing
pub mod Telling
