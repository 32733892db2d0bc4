pub mod Message
pub mod Answer
pub mod Messages
pub mod Inner
