pub mod Ids
pub mod Turns
pub mod Laws
