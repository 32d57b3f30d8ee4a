pub mod Bytes
pub mod Rendering
