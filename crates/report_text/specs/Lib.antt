pub mod Escapes
pub mod Lines
pub mod Report
pub mod Kinds
pub mod Faults
pub mod Counts
pub mod Laws
pub mod Races
