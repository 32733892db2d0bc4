pub mod Tests
pub mod Answers
pub mod Sizes
pub mod Places
pub mod Closes
