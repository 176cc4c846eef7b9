mod Chaining
mod Searching
mod Fronts
mod Blocks
mod Kept
mod Pairs
mod Earlier
mod Checked
