pub mod InnerSetters
pub mod Inner
