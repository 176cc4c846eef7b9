pub mod Rows
pub mod Boxes
pub mod Lists
pub mod Asked
