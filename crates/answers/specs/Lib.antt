pub mod Answers
pub mod Lends
