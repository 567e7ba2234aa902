pub mod Puts
pub mod Fields
pub mod Savable
