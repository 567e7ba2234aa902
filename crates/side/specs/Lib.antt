pub mod Mask
pub mod Promises
