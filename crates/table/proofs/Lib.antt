pub mod Places
pub mod Pairs
pub mod Trying
pub mod Filing
pub mod Counting
pub mod Changing
pub mod Holding
pub mod NewKinds
