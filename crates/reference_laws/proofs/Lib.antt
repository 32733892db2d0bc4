pub mod Flow
pub mod Hand
pub mod Sizes
pub mod Arrays
pub mod Call
pub mod Ends
pub mod Walk
pub mod Sample
