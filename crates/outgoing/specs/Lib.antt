pub mod Leaving
pub mod Puts
