pub mod Pages
pub mod Ran
