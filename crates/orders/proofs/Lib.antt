pub mod Steps
pub mod Changes
pub mod Forks
pub mod Tables
pub mod Entries
