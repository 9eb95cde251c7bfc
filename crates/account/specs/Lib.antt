pub mod Accounts
pub mod Repeats
