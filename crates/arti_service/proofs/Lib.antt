mod Pieces
mod Talks
mod Stops
mod Thin
mod Asking
mod Changes
mod Commits
mod Deploying
mod Doing
mod Preparing
mod Blocks
mod Wholes
mod Staging
mod Memory
pub mod Acting
pub mod Crashes
