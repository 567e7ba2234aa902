pub mod OnePass
pub mod Reading
pub mod Front
pub mod Codes
pub mod Rows
