-- Which definitions were met, by their places.
use Rattle.std.specs.Prelude.{◌≡◌, ◌⊎◌, Some, None, ℕ, ◌+◌, Bool, true, false, ◌&&◌, ◌||◌, if◌then◌else◌, List, [], ◌∷◌, length}
use Rattle.arti_rows.specs.declared.rows.RepoDef.{RepoDef}
use Rattle.arti_repos.specs.Definitions.{has_key, definition}

-- the definition of the key was
abbrev pub was_met : List RepoDef → List Bool → List ℕ → Bool
was_met [] met key = false
was_met (d ∷ defs) [] key = false
was_met (d ∷ defs) (b ∷ met) key = (b && has_key key d) || was_met defs met key

-- how many members those have that weren't
abbrev pub owed : List RepoDef → List Bool → ℕ
owed [] met = 0
owed (d ∷ defs) [] = 0
owed (d ∷ defs) (b ∷ met) = (if b then 0 else length d.members) + owed defs met

-- it has no definition, or was met
abbrev pub IsOld : List RepoDef → List Bool → List ℕ → Type 0
IsOld defs met key = (definition defs key ≡ None) ⊎ (was_met defs met key ≡ true)

-- the definition of the key is met
pub record Meets (defs : List RepoDef) (old : List Bool) (key : List ℕ) (d : RepoDef) (new : List Bool) : Type 0 where
  pub is : definition defs key ≡ Some d
  pub fresh : was_met defs old key ≡ false
  pub met : (k : List ℕ) → was_met defs new k ≡ (was_met defs old k || has_key k d)
  pub owed : owed defs new + length d.members ≡ owed defs old
