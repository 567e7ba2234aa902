pub mod Padding
pub mod Behind
pub mod Opening
