pub mod Shown
pub mod Depth
pub mod Closes
