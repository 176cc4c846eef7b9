mod Pairs
mod Features
mod RowLists
mod Boxes
