-- Where a definition stands among others.
use Rattle.std.specs.Prelude.{◌≡◌, ℕ, ◌+◌, ◌≤◌, ◌<◌, List, length, take, drop, All}
use Rattle.std.specs.List.{HoldsAt}
use Rattle.std.specs.declared.cmp.Ordering.TheVariants.{Less, Equal}
use Rattle.std.specs.Ordering.{nat_cmp}
use Rattle.std.specs.Cmp.Lexicographic.{slice_cmp}
use Rattle.arti_rows.specs.declared.rows.RepoDef.{RepoDef}

-- the definition of that key stands there: those before it have lesser keys, those behind it greater ones
pub record IsPlace (defs : List RepoDef) (key : List ℕ) (at : ℕ) : Type 0 where
  pub within : at < length defs
  pub before : All (λ (d : RepoDef). slice_cmp nat_cmp d.key key ≡ Less) (take at defs)
  pub here : HoldsAt (λ (d : RepoDef). slice_cmp nat_cmp d.key key ≡ Equal) defs at
  pub behind : All (λ (d : RepoDef). slice_cmp nat_cmp key d.key ≡ Less) (drop (at + 1) defs)

-- no definition has that key: those before the place have lesser keys, the others greater ones
pub record IsGap (defs : List RepoDef) (key : List ℕ) (at : ℕ) : Type 0 where
  pub within : at ≤ length defs
  pub before : All (λ (d : RepoDef). slice_cmp nat_cmp d.key key ≡ Less) (take at defs)
  pub behind : All (λ (d : RepoDef). slice_cmp nat_cmp key d.key ≡ Less) (drop at defs)
