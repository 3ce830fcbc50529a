pub mod Exacts
pub mod Orders
