pub mod Seats
pub mod Joining
