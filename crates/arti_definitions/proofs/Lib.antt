mod Documents
mod Pieces
