pub mod Seen
pub mod Passing
pub mod Blocks
pub mod Standing
pub mod Rests
pub mod Tellings
pub mod Nodes
