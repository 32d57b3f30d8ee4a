pub mod Sessions
pub mod Texts
