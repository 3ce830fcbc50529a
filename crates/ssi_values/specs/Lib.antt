pub mod Tables
pub mod Known
pub mod Dated
