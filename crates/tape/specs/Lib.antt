pub mod Nodes
pub mod Reading
pub mod Forest
pub mod Alike
pub mod Inner
pub mod Conditions
