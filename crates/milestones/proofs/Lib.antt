pub mod Endings
pub mod Search
pub mod Moves
pub mod Kept
pub mod Whole
pub mod Reading
pub mod Pairing
