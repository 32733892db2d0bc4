pub mod Ending
pub mod Whole
pub mod Lists
pub mod Course
pub mod Through
