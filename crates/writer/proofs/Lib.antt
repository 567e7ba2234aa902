pub mod Puts
pub mod Lists
pub mod Operators
pub mod Rules
pub mod Books
pub mod Laws
pub mod Examples
