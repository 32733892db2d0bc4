pub mod Lines
pub mod Entries
pub mod Names
pub mod Books
pub mod Conditions
pub mod Inner
