pub mod Slot
pub mod Promises
