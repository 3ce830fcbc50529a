mod Spaces
mod Compiling
