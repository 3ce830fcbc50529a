pub mod Words
pub mod Conditions
pub mod Readings
pub mod Numbered
pub mod Programs
pub mod Failing
