pub mod Documents
pub mod Keys
pub mod Body
pub mod Written
