pub mod Lists
pub mod Requests
pub mod Delegation
pub mod Machine
pub mod History
pub mod Law
pub mod Example
