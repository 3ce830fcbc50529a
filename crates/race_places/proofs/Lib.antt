mod Among
mod Indexing
mod Lines
mod Placing
