pub mod Sides
pub mod Rules
pub mod Books
pub mod Laws
pub mod Free
