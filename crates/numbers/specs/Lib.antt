pub mod Verse
pub mod Label
pub mod Inner
