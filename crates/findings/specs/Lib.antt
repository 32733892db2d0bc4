pub mod Codes
pub mod Finding
pub mod Written
pub mod Inner
