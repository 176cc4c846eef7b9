-- Whether a definition's members lead back to it.
use Rattle.std.specs.Prelude.{ℕ, zero, suc, if◌then◌else◌, List, [], ◌∷◌, length, Option, Some, None}
use Rattle.std.specs.Option.{option_map, option_or, option_map_or}
use Rattle.std.specs.Str.{bytes_eq}
use Rattle.arti_rows.specs.declared.rows.RepoDef.{RepoDef}
use Rattle.arti_repos.specs.Definitions.{definition}

-- the members of a key
abbrev pub members_of : List RepoDef → List ℕ → List (List ℕ)
members_of defs key = option_map_or (λ d. d.members) (definition defs key) []

-- the first of the ways that some keys have
abbrev pub first_way : (List ℕ → Option (List (List ℕ))) → List (List ℕ) → Option (List (List ℕ))
first_way way_of [] = None
first_way way_of (key ∷ keys) = option_or (way_of key) (first_way way_of keys)

-- a key's first way to a target, itself and the target included: through its members, in listed order
abbrev pub way_by : (List ℕ → Option (List (List ℕ))) → List RepoDef → List ℕ → List ℕ → Option (List (List ℕ))
way_by inner defs target key = if bytes_eq key target then Some (key ∷ []) else option_map (λ way. key ∷ way) (first_way inner (members_of defs key))

-- the same over so many members
unfoldable pub way_to : ℕ → List RepoDef → List ℕ → List ℕ → Option (List (List ℕ))
way_to zero defs target key = if bytes_eq key target then Some (key ∷ []) else None
way_to (suc n) defs target key = way_by (λ member. way_to n defs target member) defs target key

-- The first chain from the definition's key back to it. No definition that stands leads back to itself, so a way is no longer
-- than there are definitions.
abbrev pub cycle : List RepoDef → RepoDef → Option (List (List ℕ))
cycle defs d = option_map (λ way. d.key ∷ way) (first_way (way_to (length defs) defs d.key) d.members)
