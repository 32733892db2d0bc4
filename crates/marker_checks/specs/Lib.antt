pub mod InnerVisit
pub mod Inner
pub mod InnerSkip
