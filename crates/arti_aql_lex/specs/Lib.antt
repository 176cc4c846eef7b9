pub mod Escape
pub mod Literal
pub mod Tokens
pub mod Lexed
