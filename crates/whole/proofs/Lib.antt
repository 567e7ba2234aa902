pub mod Terms
pub mod Choosing
pub mod Applying
pub mod Machine
