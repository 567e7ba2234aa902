pub mod Present
pub mod Promises
