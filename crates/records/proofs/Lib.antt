pub mod Applying
pub mod Cuts
