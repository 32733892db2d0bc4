pub mod Records
pub mod Counting
pub mod Sums
pub mod Total
