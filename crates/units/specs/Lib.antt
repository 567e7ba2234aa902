pub mod Frames
pub mod Stacks
pub mod Promises
