pub mod Forest
pub mod Blocks
pub mod Roles
pub mod Locations
pub mod Listening
