pub mod Stores
pub mod Children
pub mod Calls
pub mod Kept
