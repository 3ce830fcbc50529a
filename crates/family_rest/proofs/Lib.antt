pub mod Counts
pub mod Lines
pub mod Quiets
pub mod Rows
pub mod Shares
pub mod Steady
pub mod Steps
pub mod Tables
