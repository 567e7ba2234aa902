pub mod Rows
pub mod Stacks
pub mod Counts
pub mod Books
pub mod Tests
pub mod Arguments
pub mod Standing
pub mod Whole
