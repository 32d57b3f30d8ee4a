pub mod Text
pub mod Truth
pub mod Model
