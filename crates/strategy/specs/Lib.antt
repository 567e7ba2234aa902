pub mod Settling
pub mod Codes
pub mod Promises
