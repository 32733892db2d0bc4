pub mod Parts
pub mod Gathered
pub mod Labels
pub mod Readable
pub mod NumberNine
pub mod WellFormed
