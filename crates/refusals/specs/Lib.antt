pub mod Refusal
pub mod Reasons
