pub mod Grow
pub mod Sorts
pub mod Steps
