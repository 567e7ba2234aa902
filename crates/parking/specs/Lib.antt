pub mod Form
pub mod Points
pub mod Change11
pub mod Change14
