pub mod Symbols
pub mod Walks
pub mod Books
