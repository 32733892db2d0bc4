pub mod Flags
pub mod Children
pub mod Codes
pub mod Whole
pub mod Skip
