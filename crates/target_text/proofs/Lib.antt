mod Settles
mod Divides
