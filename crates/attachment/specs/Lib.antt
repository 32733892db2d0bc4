pub mod Attached
pub mod Inner
