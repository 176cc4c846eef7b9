pub mod Items
pub mod Places
pub mod Changes
pub mod Replays
pub mod Store
pub mod Commit
pub mod ImageLaws
