-- A key that a walk comes to.
use Rattle.std.specs.Prelude.{◌≡◌, ◌⊎◌, ℕ, Bool, if◌then◌else◌, List, [], ◌∷◌, ◌++◌, map}
use Rattle.std.specs.Borrow.{Bor}
use Rattle.arti_rows.specs.declared.rows.Class.TheVariants.{Virtual}
use Rattle.arti_rows.specs.declared.rows.RepoDef.{RepoDef}
use Rattle.arti_repos.specs.Definitions.{is_of}
use Rattle.arti_repos.specs.Met.{IsOld, Meets}

-- definitions that are borrowed
abbrev pub values : List (Bor RepoDef) → List RepoDef
values found = map (λ (r : Bor RepoDef). r.now) found

-- what of a definition is still to be looked at: a virtual's members
abbrev pub coming : RepoDef → List (List ℕ)
coming d = if is_of Virtual d then d.members else []

-- what of it is found: itself, if it is no virtual
abbrev pub itself : RepoDef → List RepoDef
itself d = if is_of Virtual d then [] else d ∷ []

-- nothing new
pub record Stays (defs : List RepoDef) (key : List ℕ) (met₀ : List Bool) (left₀ : List (List ℕ)) (found₀ : List RepoDef) (met₁ : List Bool) (left₁ : List (List ℕ)) (found₁ : List RepoDef) : Type 0 where
  pub old : IsOld defs met₀ key
  pub met : met₁ ≡ met₀
  pub left : left₁ ≡ left₀
  pub found : found₁ ≡ found₀

-- a definition that wasn't met before
pub record Enters (defs : List RepoDef) (key : List ℕ) (d : RepoDef) (met₀ : List Bool) (left₀ : List (List ℕ)) (found₀ : List RepoDef) (met₁ : List Bool) (left₁ : List (List ℕ)) (found₁ : List RepoDef) : Type 0 where
  pub meets : Meets defs met₀ key d met₁
  pub left : left₁ ≡ coming d ++ left₀
  pub found : found₁ ≡ found₀ ++ itself d

abbrev pub Visits : List RepoDef → List ℕ → List Bool → List (List ℕ) → List RepoDef → List Bool → List (List ℕ) → List RepoDef → Type 0
Visits defs key met left found met' left' found' = Stays defs key met left found met' left' found' ⊎ ((d : RepoDef) × Enters defs key d met left found met' left' found')
