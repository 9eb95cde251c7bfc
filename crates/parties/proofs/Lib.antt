pub mod Comparison
pub mod Lengths
pub mod Agreement
pub mod Targets
