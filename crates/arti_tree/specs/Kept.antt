-- The lists that are kept of the rows, and what each of them is.
use Rattle.std.specs.Prelude.{◌≡◌, ℕ, Bool, List, [], ◌∷◌, Option, Some, None, count_by, All}
use Rattle.std.specs.List.{filter}
use Rattle.std.specs.declared.cmp.Ordering.TheVariants.{Less}
use Rattle.arti_rows.specs.Key.{key_cmp}
use Rattle.arti_tree.specs.declared.slot.Slot.{Slot}
use Rattle.arti_tree.specs.Rows.{Row, ids, IsTree, IsLive, lies_in, is_of}
use Rattle.arti_tree.specs.Slots.{at, live}

-- the keys rise in the default order
abbrev pub Rising : List Row → Type 0
Rising [] = Unit {0}
Rising (r ∷ rows) = All (λ x. key_cmp r.key x.key ≡ Less) rows × Rising rows

-- the ids by the default order of their keys
pub record Ordered (rows : List Row) (order : List ℕ) : Type 0 where
  pub sorted : List Row
  pub is : order ≡ ids sorted
  pub live : All (IsLive rows) sorted
  pub same : (test : Row → Bool) → count_by test sorted ≡ count_by test rows
  pub rising : Rising sorted

-- the rows that lie in the folder under an id
abbrev pub inside : List Row → Option Slot → List ℕ
inside rows None = []
inside rows (Some s) = ids (filter (lies_in s.key) rows)

-- each list of ids is that of the rows
pub record Kept (slots : List (Option Slot)) (all order : List ℕ) (children : ℕ → List ℕ) (repos : List ℕ → List ℕ) : Type 0 where
  pub tree : IsTree (live 0 slots)
  pub all_is : all ≡ ids (live 0 slots)
  pub order_is : Ordered (live 0 slots) order
  pub children_are : (id : ℕ) → children id ≡ inside (live 0 slots) (at slots id)
  pub repos_are : (repo : List ℕ) → repos repo ≡ ids (filter (is_of repo) (live 0 slots))
