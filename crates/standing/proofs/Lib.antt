pub mod Names
pub mod Symbols
pub mod Keys
pub mod Walk
pub mod Rules
