mod Members
pub mod Numbers
mod Heard
mod Wholes
mod Skips
mod Taking
mod Asking
mod Opens
mod Returns
mod Including
mod Joins
mod Beginning
