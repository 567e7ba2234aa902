pub mod Field
pub mod Window
