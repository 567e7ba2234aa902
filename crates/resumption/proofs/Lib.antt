pub mod Slot
pub mod Going
pub mod Answers
