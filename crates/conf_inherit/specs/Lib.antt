pub mod Programs
pub mod Values
pub mod Pools
pub mod Laws
pub mod Built
