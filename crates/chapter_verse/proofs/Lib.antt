pub mod Givens
pub mod Seen
pub mod Positions
pub mod Passing
pub mod Checked
