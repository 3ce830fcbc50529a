mod Phased
mod Paged
mod Serving
mod Turning
mod Placing
mod Fronts
pub mod Walks
