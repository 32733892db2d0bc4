pub mod Around
pub mod Named
pub mod Runs
pub mod WellFormed
pub mod InTurn
