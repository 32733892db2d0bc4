pub mod Cells
pub mod Row
