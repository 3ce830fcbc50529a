pub mod Lists
mod Notes
mod Keys
mod Alike
mod Programs
pub mod Numbering
mod Telling
mod Deciding
pub mod Shared
mod Firsts
