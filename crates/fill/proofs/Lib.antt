pub mod Decoding
pub mod Sides
pub mod Placing
pub mod Filling
