pub mod Over
pub mod Writing
pub mod Decimal
