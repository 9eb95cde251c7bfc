pub mod Names
pub mod Terms
pub mod Reading
pub mod Answers
