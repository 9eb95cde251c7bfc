pub mod Names
pub mod Opened
