pub mod Prefixes
pub mod Shared
pub mod Entries
pub mod Numbers
pub mod Ordered
