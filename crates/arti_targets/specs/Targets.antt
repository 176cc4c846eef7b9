-- The target of a file that a file spec names (JFrog's File Spec manual; which texts are placeholders, and what is appended, is of this project).
use Rattle.std.specs.Prelude.{◌≡◌, ℕ, ◌+◌, ◌*◌, ◌-◌, ◌≤◌, Bool, true, false, not, ◌&&◌, ◌||◌, nat_lt, nat_le, nat_eq, if◌then◌else◌, List, [], ◌∷◌, ◌++◌, length, take, drop, codes, flat_map, get_or, Option, Some, None, encode_utf8}
use Rattle.std.specs.List.{find, list_any, ends_with}
use Rattle.std.specs.Str.{chars, IsCharBoundary}
use Rattle.arti_rows.specs.Key.{Key, whole_of}
use Rattle.arti_wild.specs.declared.part.Part.{Part}
use Rattle.arti_wild.specs.declared.capturing.Span.{Span}
use Rattle.arti_wild.specs.Splits.{captured}
use Rattle.arti_targets.specs.declared.part.TargetPart.{TargetPart}
use Rattle.arti_targets.specs.declared.part.TargetPart.TheVariants.{Char, Group}

-- ---- how a target is read

abbrev pub is_digit : ℕ → Bool
is_digit c = nat_le 48 c && nat_le c 57

-- The number that digits and a closing brace write, and how many characters that takes: `seen` digits stand before, and are `number`. There are one
-- to three digits.
unfoldable pub hole_from : ℕ → ℕ → List ℕ → Option (ℕ × ℕ)
hole_from seen number [] = None
hole_from seen number (c ∷ rest) =
    if nat_eq c 125 then (if nat_eq seen 0 then None else Some (number, seen + 1)) else (
    if is_digit c && nat_lt seen 3 then hole_from (seen + 1) (number * 10 + (c - 48)) rest else None)

-- the number of the placeholder whose opening brace these characters follow
abbrev pub hole : List ℕ → Option (ℕ × ℕ)
hole rest = hole_from 0 0 rest

-- a part that begins with a character, and how many characters it takes beside it
abbrev pub part_by : ℕ → Option (ℕ × ℕ) → TargetPart × ℕ
part_by c None = (Char c, 0)
part_by c (Some h) = (Group h.0, h.1)

abbrev pub part_at : ℕ → List ℕ → TargetPart × ℕ
part_at c rest = part_by c (if nat_eq c 123 then hole rest else None)

-- the parts of characters, of which so many belong to a part before them
unfoldable pub parts_from : ℕ → List ℕ → List TargetPart
parts_from taken [] = []
parts_from taken (c ∷ rest) =
    if nat_lt 0 taken then parts_from (taken - 1) rest else (part_at c rest).0 ∷ parts_from (part_at c rest).1 rest

-- the parts of a target
abbrev pub parts_of : List ℕ → List TargetPart
parts_of text = parts_from 0 (chars text)

-- ---- which placeholders there are

-- the part is a placeholder, and there are too few for it
abbrev pub is_wrong : ℕ → TargetPart → Bool
is_wrong groups (Char c) = false
is_wrong groups (Group n) = nat_eq n 0 || nat_lt groups n

-- the first part that names no placeholder
abbrev pub wrong_part : ℕ → List TargetPart → Option TargetPart
wrong_part groups parts = find (is_wrong groups) parts

abbrev pub is_group : TargetPart → Bool
is_group (Char c) = false
is_group (Group n) = true

-- ---- the target of a file

-- what a span of a text holds
abbrev pub within : List ℕ → Span → List ℕ
within text span = take (span.end - span.start) (drop span.start text)

-- what stands in a part's place, where those are the placeholders' spans of the text
abbrev pub part_text : List ℕ → List Span → TargetPart → List ℕ
part_text text spans (Char c) = encode_utf8 c
part_text text spans (Group n) = within text (get_or spans (n - 1) (record { start = 0; end = 0 }))

-- the parts with their placeholders replaced
abbrev pub filled : List ℕ → List Span → List TargetPart → List ℕ
filled text spans parts = flat_map (part_text text spans) parts

-- it isn't empty and doesn't end in a slash
abbrev pub is_file_name : List ℕ → Bool
is_file_name text = nat_lt 0 (length text) && not (ends_with nat_eq text (codes "/"))

-- what is appended: the name, and the path before it where it is wanted
abbrev pub appended : Bool → Key → List ℕ
appended flat key = if flat then key.name else whole_of key

-- a target with its placeholders replaced, where the file's name is appended unless one stands there
abbrev pub named_by : List ℕ → Bool → Key → List ℕ
named_by front flat key = if is_file_name front then front else front ++ appended flat key

-- the target of a file; a target with placeholders is never followed by the path
abbrev pub target_text : Option (List TargetPart) → Bool → Key → List ℕ → List Span → List ℕ
target_text None flat key text spans = appended flat key
target_text (Some parts) flat key text spans = named_by (filled text spans parts) (flat || list_any is_group parts) key

-- ---- spans of captures

-- a span lies between characters of the text
pub record IsCut (text : List ℕ) (span : Span) : Type 0 where
  pub order : span.start ≤ span.end
  pub start : IsCharBoundary text span.start
  pub end : IsCharBoundary text span.end

-- the spans are what the placeholders of some pattern stand for in the text
abbrev pub AreCaptured : List ℕ → List Span → Type 0
AreCaptured text spans = (parts : List Part) × (captured parts text ≡ Some spans)
