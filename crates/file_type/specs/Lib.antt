pub mod Extension
pub mod Types
pub mod Buckets
