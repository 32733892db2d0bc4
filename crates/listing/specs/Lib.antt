pub mod Lines
pub mod Columns
pub mod LinesAndColumns
pub mod Listing
pub mod Pieces
pub mod Inner
