pub mod Numbers
pub mod Groups
pub mod Made
pub mod Inverse
pub mod Texts
pub mod Elements
