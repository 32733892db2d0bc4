pub mod Along
pub mod Tests
pub mod WrongAnswers
