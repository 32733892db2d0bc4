pub mod Steps
pub mod Going
pub mod Skipped
pub mod Visiting
pub mod Entries
