pub mod Laws
pub mod Leaves
pub mod Milestone
pub mod Steps
