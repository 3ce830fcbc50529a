pub mod Paths
pub mod Masks
pub mod Listings
pub mod Expansion
pub mod Asked
pub mod Told
pub mod Steps
pub mod Laws
