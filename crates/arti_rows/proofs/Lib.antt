mod Chars
mod PropTexts
