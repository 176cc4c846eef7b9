pub mod Fits
pub mod Wild
pub mod Run
pub mod Ant
pub mod Parts
pub mod Splits
pub mod Places
