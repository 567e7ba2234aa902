pub mod Slots
pub mod Part
pub mod Parks
pub mod Named
