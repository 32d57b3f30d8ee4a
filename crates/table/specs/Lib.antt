pub mod Trials
pub mod Filing
