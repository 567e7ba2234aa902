pub mod Layout
pub mod Tables
