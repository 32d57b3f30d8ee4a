pub mod AsLoad
pub mod Gathering
