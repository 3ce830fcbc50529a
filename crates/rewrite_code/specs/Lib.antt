pub mod Found
pub mod Texts
pub mod Places
pub mod Runs
pub mod Conditions
pub mod Moves
pub mod Steps
