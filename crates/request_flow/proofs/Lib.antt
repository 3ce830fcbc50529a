mod Padding
pub mod Turns
mod Pieces
mod Puts
mod Composing
mod Reaching
