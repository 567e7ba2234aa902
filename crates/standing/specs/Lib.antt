pub mod Keys
pub mod Dates
pub mod Promises
