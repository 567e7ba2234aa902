pub mod Lines
pub mod Spec
pub mod Promises
