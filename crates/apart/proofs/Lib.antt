pub mod Parting
pub mod Marks
pub mod Cells
pub mod Words
pub mod Books
