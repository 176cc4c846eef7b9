-- Ant patterns, over the segments of pattern and path: a segment `**` is any number of segments, none too, and another one
-- is a segment that it stands for as a wild pattern.
use Rattle.std.specs.Prelude.{ℕ, Bool, true, false, ◌==◌, if◌then◌else◌, List, [], ◌∷◌, length, reverse, codes}
use Rattle.std.specs.List.{slice_split, list_any}
use Rattle.std.specs.Str.{bytes_eq}
use Rattle.arti_wild.specs.Fits.{fits}
use Rattle.arti_wild.specs.Run.{takes}
use Rattle.arti_wild.specs.Wild.{wild_text}

-- the parts of a text between its slashes
abbrev pub segments : List ℕ → List (List ℕ)
segments text = slice_split (λ b. b == 47) text

-- A last segment that is empty, since a slash ends the pattern, is `**`.
abbrev pub with_open_end : List (List ℕ) → List (List ℕ)
with_open_end [] = []
with_open_end (last ∷ []) = (if length last == 0 then codes "**" else last) ∷ []
with_open_end (segment ∷ next ∷ more) = segment ∷ with_open_end (next ∷ more)

-- the segments of a pattern
abbrev pub pattern_segments : List ℕ → List (List ℕ)
pattern_segments pattern = with_open_end (segments pattern)

-- the segment stands for any number of segments
abbrev pub is_double_star : List ℕ → Bool
is_double_star segment = bytes_eq segment (codes "**")

abbrev pub takes_segment : List ℕ → List ℕ → Bool
takes_segment pattern segment = takes is_double_star wild_text pattern segment

-- the segments are ones that the pattern's segments stand for
abbrev pub segments_fit : List (List ℕ) → List (List ℕ) → Bool
segments_fit pattern path = fits is_double_star wild_text pattern path

-- an empty pattern stands for nothing
abbrev pub pattern_fits : List ℕ → List ℕ → Bool
pattern_fits [] path = false
pattern_fits (first ∷ more) path = segments_fit (pattern_segments (first ∷ more)) (segments path)

abbrev pub skip_spaces : List ℕ → List ℕ
skip_spaces [] = []
skip_spaces (c ∷ rest) = if c == 32 then skip_spaces rest else c ∷ rest

abbrev pub skip_last_spaces : List ℕ → List ℕ
skip_last_spaces text = reverse (skip_spaces (reverse text))

-- without the spaces round it
abbrev pub trimmed : List ℕ → List ℕ
trimmed text = skip_last_spaces (skip_spaces text)

-- one of the patterns, which commas separate, stands for the path
abbrev pub ant_path : List ℕ → List ℕ → Bool
ant_path patterns path = list_any (λ pattern. pattern_fits (trimmed pattern) path) (slice_split (λ b. b == 44) patterns)

-- what is left of a path, and of a pattern: nothing, or the segments of a text
abbrev pub segments_left : Bool → List ℕ → List (List ℕ)
segments_left true text = segments text
segments_left false text = []

abbrev pub pattern_left : Bool → List ℕ → List (List ℕ)
pattern_left more text = with_open_end (segments_left more text)

-- a segment of a pattern, where more follow it or not
abbrev pub end_of : Bool → List ℕ → List ℕ
end_of true segment = segment
end_of false segment = if length segment == 0 then codes "**" else segment
