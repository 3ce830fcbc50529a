pub mod Moment
pub mod Shown
pub mod Civil
