pub mod Walk
pub mod Promises
