mod Rows
mod Filters
mod CommandLines
