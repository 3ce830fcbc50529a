pub mod Words
pub mod Hosts
pub mod Lists
