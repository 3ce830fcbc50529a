pub mod Faults
pub mod Entries
pub mod Grammar
pub mod Steps
