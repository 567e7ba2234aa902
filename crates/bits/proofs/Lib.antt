pub mod Ahead
pub mod Bytes
pub mod Splice
pub mod Place
pub mod Reading
pub mod Writing
