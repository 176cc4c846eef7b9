mod Pieces
mod Rows
mod Whole
