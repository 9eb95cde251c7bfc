pub mod Numeral
pub mod Canonical
pub mod Base64
pub mod Element
