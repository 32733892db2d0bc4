pub mod Attributes
pub mod Inner
