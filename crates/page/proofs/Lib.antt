pub mod Decimals
pub mod Input
pub mod Prefix
pub mod Lines
pub mod Laws
