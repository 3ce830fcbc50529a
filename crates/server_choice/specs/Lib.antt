pub mod Names
pub mod Choice
pub mod Listening
