mod Rows
mod ListRows
