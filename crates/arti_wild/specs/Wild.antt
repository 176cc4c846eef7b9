-- Wild patterns, over the characters of pattern and text: `*` is any text, `?` one character, any other character itself.
use Rattle.std.specs.Prelude.{ℕ, Bool, ◌||◌, ◌==◌, List}
use Rattle.std.specs.Str.{chars}
use Rattle.arti_wild.specs.Fits.{fits}
use Rattle.arti_wild.specs.Run.{takes}

abbrev pub is_star : ℕ → Bool
is_star p = p == 42

-- the character of a pattern stands for this one
abbrev pub stands_for : ℕ → ℕ → Bool
stands_for p c = (p == 63) || (p == c)

-- the character of a pattern is no star and stands for this one
abbrev pub takes_char : ℕ → ℕ → Bool
takes_char p c = takes is_star stands_for p c

-- the characters are a text that the pattern's characters stand for
abbrev pub wild_chars : List ℕ → List ℕ → Bool
wild_chars pattern text = fits is_star stands_for pattern text

-- the text is one that the pattern stands for
abbrev pub wild_text : List ℕ → List ℕ → Bool
wild_text pattern text = wild_chars (chars pattern) (chars text)
