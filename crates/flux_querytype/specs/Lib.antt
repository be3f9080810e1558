pub mod Answers
pub mod Filter
