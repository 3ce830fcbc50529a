pub mod Peers
pub mod Answered
pub mod Told
pub mod Scripted
