pub mod Sides
pub mod Promises
