pub mod Parts
pub mod Places
pub mod Changes
pub mod Ops
pub mod Ties
pub mod Orders
pub mod Steps
pub mod Views
