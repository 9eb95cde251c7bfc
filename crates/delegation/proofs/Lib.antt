pub mod Chains
pub mod Following
pub mod Walks
pub mod Words
