pub mod InnerVisit
pub mod Inner
