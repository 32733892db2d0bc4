pub mod Words
pub mod Lines
pub mod Columns
pub mod Places
pub mod Shown
pub mod Pieces
pub mod Joined
