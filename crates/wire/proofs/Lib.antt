mod Same
pub mod Headers
mod Written
mod Filling
