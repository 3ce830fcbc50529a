pub mod Settles
mod Roots
mod Found
mod Plain
mod Clean
