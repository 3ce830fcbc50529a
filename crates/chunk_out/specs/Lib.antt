pub mod Chunks
pub mod State
pub mod Laws
