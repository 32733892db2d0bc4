pub mod Over
pub mod Decimal
