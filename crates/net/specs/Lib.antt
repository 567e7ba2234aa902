pub mod Layout
pub mod Net
pub mod Promises
