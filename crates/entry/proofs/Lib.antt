pub mod Facts
pub mod Marks
pub mod Orders
pub mod Forking
pub mod Rewriting
