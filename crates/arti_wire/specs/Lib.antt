pub mod Fields
pub mod Heads
pub mod Lines
pub mod Ahead
pub mod Judged
pub mod Framing
pub mod WireState
