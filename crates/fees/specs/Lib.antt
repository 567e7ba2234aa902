pub mod Fees
pub mod Spec
pub mod Promises
