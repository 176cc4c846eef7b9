-- The texts of patterns with placeholders: `(` and `)` mark a placeholder, `\(` and `\)` are those characters, and the rest
-- is as in wild patterns. Placeholders do not nest.
use Rattle.std.specs.Prelude.{ℕ, Bool, true, false, ◌==◌, ◌&&◌, ◌||◌, if◌then◌else◌, List, [], ◌∷◌, Option, Some, None, option_and_then}
use Rattle.std.specs.Str.{chars}
use Rattle.arti_wild.specs.declared.part.Part.{Part}
use Rattle.arti_wild.specs.declared.part.Part.TheVariants.{Char, LastSlash, Any, Star, Open, Close}

infixl 10 ◌>>=◌
abbrev pub ◌>>=◌ : {A B : Type 0} → Option A → (A → Option B) → Option B
o >>= f = option_and_then f o

abbrev pub is_parenthesis : ℕ → Bool
is_parenthesis c = (c == 40) || (c == 41)

-- what a character stands for, inside a placeholder or outside, and whether what follows is inside
abbrev pub part_of : Bool → ℕ → Option (Part × Bool)
part_of inside c =
    if c == 40 then (if inside then None else Some (Open, true))
    else (if c == 41 then (if inside then Some (Close, false) else None)
    else (if c == 42 then Some (Star, inside)
    else (if c == 63 then Some (Any, inside) else Some (Char c, inside))))

-- no placeholder is open at the end
abbrev pub ended : Bool → Option (List Part)
ended inside = if inside then None else Some []

-- the parts of the characters that follow, inside a placeholder or outside
unfoldable pub parts_of : Bool → List ℕ → Option (List Part)
parts_of inside [] = ended inside
parts_of inside (c ∷ []) = do
  part ← part_of inside c
  more ← ended part.1
  Some (part.0 ∷ more)
parts_of inside (c ∷ d ∷ rest) = if (c == 92) && is_parenthesis d then (do
  more ← parts_of inside rest
  Some (Char d ∷ more))
    else (do
      part ← part_of inside c
      more ← parts_of part.1 (d ∷ rest)
      Some (part.0 ∷ more))

abbrev pub is_slash : Part → Bool
is_slash (Char c) = c == 47
is_slash LastSlash = false
is_slash Any = false
is_slash Star = false
is_slash Open = false
is_slash Close = false

-- one part more in front: the slash that is marked stands in what follows, or is this one
abbrev pub mark : Part → List Part → Option (List Part) → Option (List Part)
mark part more (Some marked) = Some (part ∷ marked)
mark part more None = if is_slash part then Some (LastSlash ∷ more) else None

-- with the last slash marked, if there is one
unfoldable pub with_last_slash : List Part → Option (List Part)
with_last_slash [] = None
with_last_slash (part ∷ more) =
    mark part more (with_last_slash more)

-- with the last slash marked, except in a pattern that is read for whole paths
abbrev pub marked_for : Bool → List Part → Option (List Part)
marked_for whole_path parts = if whole_path then Some parts else with_last_slash parts

-- The parts of a pattern. Where it is not read for whole paths, its last slash is marked, and it has one.
unfoldable pub pattern_of : Bool → List ℕ → Option (List Part)
pattern_of whole_path text = do
  parts ← parts_of false (chars text)
  marked_for whole_path parts
