pub mod Splitting
pub mod NextLine
pub mod Answers
pub mod Loop
pub mod Books
pub mod Laws
