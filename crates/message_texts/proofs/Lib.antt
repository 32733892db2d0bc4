pub mod Capitals
pub mod Filling
pub mod Room
pub mod Choosing
pub mod Decimals
