pub mod Admissions
mod Acts
mod Contents
mod Nexts
mod Programs
mod Ahead
mod Slashes
