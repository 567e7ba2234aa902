pub mod Spec
pub mod Promises
