-- How a pattern with placeholders splits a text, over characters, and what its placeholders stand for then.
use Rattle.std.specs.Prelude.{◌≡◌, ◌⊎◌, ℕ, suc, ◌+◌, ◌<◌, ◌≤◌, Bool, true, false, not, ◌==◌, ◌&&◌, List, [], ◌∷◌, length, take, drop, map, if◌then◌else◌, Option, Some, None, option_map, encode_utf8_all}
use Rattle.std.specs.List.{list_any}
use Rattle.std.specs.Str.{chars}
use Rattle.arti_wild.specs.declared.part.Part.{Part}
use Rattle.arti_wild.specs.declared.part.Part.TheVariants.{Char, LastSlash, Any, Star, Open, Close}
use Rattle.arti_wild.specs.declared.capturing.Span.{Span}

-- a part of one character stands for the first one of the text
abbrev pub takes_first : Part → List ℕ → Bool
takes_first part [] = false
takes_first (Char c) (d ∷ rest) = c == d
takes_first LastSlash (d ∷ rest) = (d == 47) && not (list_any (λ e. e == 47) rest)
takes_first Any (d ∷ rest) = true
takes_first Star (d ∷ rest) = false
takes_first Open (d ∷ rest) = false
takes_first Close (d ∷ rest) = false

-- the text is split by the parts, and these are the lengths of what the stars stand for, from the left
unfoldable pub Splits : List Part → List ℕ → List ℕ → Type 0
Splits [] text lengths = (text ≡ []) × (lengths ≡ [])
Splits (Star ∷ parts) text lengths = (n : ℕ) × (more : List ℕ) × (lengths ≡ n ∷ more) × (n ≤ length text) × Splits parts (drop n text) more
Splits (Open ∷ parts) text lengths = Splits parts text lengths
Splits (Close ∷ parts) text lengths = Splits parts text lengths
Splits (Char c ∷ parts) text lengths = (takes_first (Char c) text ≡ true) × Splits parts (drop 1 text) lengths
Splits (LastSlash ∷ parts) text lengths = (takes_first LastSlash text ≡ true) × Splits parts (drop 1 text) lengths
Splits (Any ∷ parts) text lengths = (takes_first Any text ≡ true) × Splits parts (drop 1 text) lengths

-- no greater, in list order
unfoldable pub IsAtMost : List ℕ → List ℕ → Type 0
IsAtMost [] ns = Unit {0}
IsAtMost (m ∷ ms) [] = ⊥
IsAtMost (m ∷ ms) (n ∷ ns) = (m < n) ⊎ ((m ≡ n) × IsAtMost ms ns)

-- a star's length in front of the others
abbrev pub with_length : ℕ → Option (List ℕ) → Option (List ℕ)
with_length n lengths = option_map (λ more. n ∷ more) lengths

-- one character more for the star, if that goes
abbrev pub or_shorter : Option (List ℕ) → Option (List ℕ) → Option (List ℕ)
or_shorter (Some (n ∷ more)) shorter = Some (suc n ∷ more)
or_shorter (Some []) shorter = shorter
or_shorter None shorter = shorter

-- the lengths where a star is as long as what follows allows
abbrev pub longest : (List ℕ → Option (List ℕ)) → List ℕ → Option (List ℕ)
longest rest [] = with_length 0 (rest [])
longest rest (c ∷ text) = or_shorter (longest rest text) (with_length 0 (rest (c ∷ text)))

-- the greatest lengths of all splits, if there is one
unfoldable pub greatest : List Part → List ℕ → Option (List ℕ)
greatest [] [] = Some []
greatest [] (c ∷ text) = None
greatest (Star ∷ parts) text = longest (greatest parts) text
greatest (Open ∷ parts) text = greatest parts text
greatest (Close ∷ parts) text = greatest parts text
greatest (Char c ∷ parts) text = if takes_first (Char c) text then greatest parts (drop 1 text) else None
greatest (LastSlash ∷ parts) text = if takes_first LastSlash text then greatest parts (drop 1 text) else None
greatest (Any ∷ parts) text = if takes_first Any text then greatest parts (drop 1 text) else None

-- a part of a text: its first character's place, and that of the first one after it
abbrev pub Places : Type 0
Places = ℕ × ℕ

-- The placeholders' parts of the text, from a place on. The last one that was opened was opened at `opened`.
unfoldable pub placeholders : (opened at : ℕ) → List Part → List ℕ → List Places
placeholders opened at [] lengths = []
placeholders opened at (Star ∷ parts) [] = placeholders opened at parts []
placeholders opened at (Star ∷ parts) (n ∷ lengths) = placeholders opened (at + n) parts lengths
placeholders opened at (Open ∷ parts) lengths = placeholders at at parts lengths
placeholders opened at (Close ∷ parts) lengths = (opened, at) ∷ placeholders opened at parts lengths
placeholders opened at (Char c ∷ parts) lengths = placeholders opened (at + 1) parts lengths
placeholders opened at (LastSlash ∷ parts) lengths = placeholders opened (at + 1) parts lengths
placeholders opened at (Any ∷ parts) lengths = placeholders opened (at + 1) parts lengths

-- the byte at which a character begins
abbrev pub byte_place : List ℕ → ℕ → ℕ
byte_place text n = length (encode_utf8_all (take n text))

abbrev pub in_bytes : List ℕ → Places → Span
in_bytes text p = record { start = byte_place text p.0; end = byte_place text p.1 }

-- what the placeholders stand for in the split of the text that is the greatest
unfoldable pub captured : List Part → List ℕ → Option (List Span)
captured parts text = option_map (λ lengths. map (in_bytes (chars text)) (placeholders 0 0 parts lengths)) (greatest parts (chars text))
