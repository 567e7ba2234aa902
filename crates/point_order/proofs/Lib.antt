pub mod Tests
pub mod Exits
pub mod Order
pub mod Loops
pub mod Waiting
pub mod Ranks
pub mod Books
