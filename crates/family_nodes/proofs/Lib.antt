pub mod Sets
mod Marks
mod Hearing
