pub mod Words
pub mod Compression
pub mod Fours
pub mod Message
pub mod Stream
pub mod Keyed
pub mod Laws
