mod Entries
mod Settles
mod Reading
mod Dates
mod Sides
