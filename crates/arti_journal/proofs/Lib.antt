mod Bytes
mod Appends
mod Makes
mod Chains
mod Progress
mod Opens
mod Pieces
