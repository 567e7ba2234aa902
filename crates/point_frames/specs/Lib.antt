pub mod Test
pub mod Steps
pub mod Counting
pub mod Promises
