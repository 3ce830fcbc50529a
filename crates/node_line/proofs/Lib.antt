pub mod Joins
pub mod Keeping
pub mod Shows
pub mod Steps
pub mod Certain
pub mod Holes
