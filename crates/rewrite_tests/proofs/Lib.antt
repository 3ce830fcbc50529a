mod Rows
mod RowsOfPrograms
