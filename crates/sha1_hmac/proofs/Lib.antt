pub mod Schedule
pub mod Digest
pub mod Absorbing
pub mod Padding
pub mod Masks
pub mod Pieces
