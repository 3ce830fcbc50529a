pub mod Decided
pub mod Scans
pub mod Steps
pub mod Feeds
pub mod Insides
pub mod Opens
pub mod Shorter
pub mod Onward
