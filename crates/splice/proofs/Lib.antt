pub mod Growing
pub mod Replacing
