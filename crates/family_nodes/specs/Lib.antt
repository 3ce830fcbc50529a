pub mod Told
pub mod Runs
pub mod Marks
pub mod Lending
