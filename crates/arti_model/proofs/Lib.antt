mod Rows
mod AskRows
pub mod OneReading
mod Runs
mod EditRows
mod ItemRows
