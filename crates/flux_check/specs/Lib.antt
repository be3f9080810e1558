pub mod Answers
pub mod Ones
