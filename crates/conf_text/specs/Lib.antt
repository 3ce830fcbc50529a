pub mod Words
pub mod Tokens
pub mod Places
pub mod Statements
pub mod Blocks
pub mod Reading
pub mod Printing
pub mod Steps
