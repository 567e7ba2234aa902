pub mod Skipping
pub mod Hopping
pub mod Sized
pub mod Marks
pub mod Comparing
