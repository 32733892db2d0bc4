pub mod Names
pub mod Steps
pub mod Info
pub mod Inner
pub mod InnerTurn
