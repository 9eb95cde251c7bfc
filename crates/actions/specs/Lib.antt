pub mod Codes
pub mod Arguments
pub mod Views
pub mod Forms
