pub mod Lines
pub mod Shown
pub mod Held
pub mod Core
