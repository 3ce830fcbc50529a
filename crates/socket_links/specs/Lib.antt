pub mod Slots
pub mod Sockets
