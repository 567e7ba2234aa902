pub mod Examples
pub mod Signs
pub mod Counting
pub mod Sizes
pub mod Laws
pub mod Values
pub mod Loops
pub mod Answers
