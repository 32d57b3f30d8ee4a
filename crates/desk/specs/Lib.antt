pub mod Desk
pub mod AsLoad
