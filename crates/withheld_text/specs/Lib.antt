pub mod Withheld
