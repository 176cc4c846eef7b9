pub mod Format
pub mod Rules
pub mod ChangeBytes
pub mod Reading
pub mod ReadingRows
pub mod Seen
