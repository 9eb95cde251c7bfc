pub mod View
pub mod Call
