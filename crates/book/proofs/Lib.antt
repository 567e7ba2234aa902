pub mod Readers
pub mod Forms
pub mod Grow
pub mod Operators
pub mod Rules
pub mod Parts
