pub mod Marks
pub mod Commands
pub mod Split
pub mod Moves
pub mod Laws
pub mod Names
pub mod Reads
