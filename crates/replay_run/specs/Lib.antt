pub mod Told
pub mod Scene
pub mod Standing
pub mod Plays
