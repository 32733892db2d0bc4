pub mod Windows
pub mod Surveying
