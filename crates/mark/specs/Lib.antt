pub mod Mark
pub mod Conditions
pub mod MarkLines
