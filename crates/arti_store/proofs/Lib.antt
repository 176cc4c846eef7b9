mod Places
mod Meanings
mod References
mod Holdings
pub mod Images
mod Commits
mod Openings
mod Redoing
mod Lengths
mod Shortness
