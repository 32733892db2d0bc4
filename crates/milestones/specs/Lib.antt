pub mod Inner
pub mod InnerStep
