pub mod Composed
pub mod Printed
pub mod Readings
pub mod Theorems
pub mod WrongResults
