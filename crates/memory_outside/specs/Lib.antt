pub mod Stored
pub mod Names
pub mod Taken
pub mod Answered
pub mod Moments
