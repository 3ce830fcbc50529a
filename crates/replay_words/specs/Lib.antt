pub mod Faults
pub mod Lines
pub mod Words
pub mod Numbers
pub mod Escapes
pub mod Sums
pub mod Addrs
pub mod Steps
