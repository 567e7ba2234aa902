pub mod Walks
pub mod Agreeing
pub mod Nodes
pub mod Rules
pub mod Stacks
pub mod Searching
pub mod Rooting
