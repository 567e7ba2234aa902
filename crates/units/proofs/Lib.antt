pub mod Areas
pub mod Bytes
pub mod Stacks
pub mod Units
pub mod Changes
pub mod Loops
