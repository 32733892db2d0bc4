pub mod Texts
pub mod Filled
pub mod Inner
