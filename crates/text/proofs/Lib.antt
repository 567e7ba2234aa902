pub mod Table
pub mod Operators
pub mod Pass
pub mod Laws
