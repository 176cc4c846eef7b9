pub mod Civil
pub mod Printed
pub mod Dates
pub mod Front
pub mod DateReader
pub mod Spans
