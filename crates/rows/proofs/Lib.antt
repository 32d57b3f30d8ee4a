pub mod Paste
pub mod Entries
pub mod Empty
pub mod Shifts
pub mod Outcome
pub mod Change
