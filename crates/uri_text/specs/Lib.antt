pub mod Escape
pub mod Laws
pub mod Steps
pub mod Target
