pub mod Phrases
pub mod Values
pub mod Head
pub mod Laws
pub mod Front
pub mod Lent
