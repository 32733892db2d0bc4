pub mod Copying
pub mod Reporting
