pub mod Fronts
pub mod Children
