-- Keys each of which is the folder of the next.
use Rattle.std.specs.Prelude.{◌≡◌, Bool, true, ℕ, List, [], ◌∷◌, ◌++◌, None}
use Rattle.arti_rows.specs.Key.{Key}
use Rattle.arti_rows.specs.Names.{IsKey}
use Rattle.arti_tree.specs.Rows.{Row, ids, row_at, has_folder, folder_of, HasFolder}
use Rattle.arti_tree.specs.Adds.{Adds}
use Rattle.arti_tree.specs.Ids.{TakesNext}

-- each key is the folder of the next
abbrev pub Leads : Key → List Key → Type 0
Leads k [] = Unit {0}
Leads k (m ∷ keys) = IsKey m × (has_folder m ≡ true) × (folder_of m ≡ k) × Leads m keys

-- keys that can be added in order
abbrev pub CanAdd : List Row → List Key → Type 0
CanAdd rows [] = Unit {0}
CanAdd rows (k ∷ keys) = IsKey k × HasFolder rows k × (row_at rows k ≡ None) × Leads k keys

-- the ids of what was added stand behind those before
pub record Pushes (rows : List Row) (keys : List Key) (is_file : Bool) (before after : List ℕ) (new : List Row) : Type 0 where
  pub ids : List ℕ
  pub pushed : after ≡ before ++ ids
  pub adds : Adds rows keys is_file ids new

-- each of the ids that stand behind those before was the next one
pub record PushesNext (rows : List Row) (before after : List ℕ) : Type 0 where
  pub more : List ℕ
  pub pushed : after ≡ before ++ more
  pub next : TakesNext (ids rows) more
