pub mod Choices
pub mod Numbers
pub mod Answers
