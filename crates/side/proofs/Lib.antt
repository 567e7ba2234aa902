pub mod Consumed
pub mod Mask
pub mod There
pub mod Symbols
pub mod Sides
