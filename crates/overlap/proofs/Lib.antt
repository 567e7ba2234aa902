pub mod Leading
pub mod Entering
pub mod Walking
pub mod Building
