pub mod Copying
pub mod Schedule
pub mod Frame
pub mod Answers
pub mod Readers
pub mod Runs
pub mod Laws
