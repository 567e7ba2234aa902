pub mod Passing
pub mod Some
