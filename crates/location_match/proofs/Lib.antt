pub mod Order
pub mod Shared
pub mod First
pub mod Counts
pub mod Halves
pub mod Nearest
pub mod Grown
pub mod Sorted
