pub mod Places
pub mod CellsMemory
pub mod Gaps
