pub mod Readings
pub mod Literals
pub mod Rows
pub mod Values
