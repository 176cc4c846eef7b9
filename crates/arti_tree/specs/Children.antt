-- The rows that lie in each folder.
use Rattle.std.specs.Prelude.{ℕ, List, [], Vec}
use Rattle.std.specs.Option.{option_map_or}
use Rattle.std.specs.Ordering.{nat_cmp}
use Rattle.std.specs.BTreeMap.{BTreeMap, get}
use Rattle.std.specs.declared.alloc.Global.{Global}

-- the list under an id, empty where there is none
abbrev pub list_at : BTreeMap ℕ (Vec ℕ Global) → ℕ → List ℕ
list_at children id = option_map_or (λ v. v.items) (get nat_cmp children id) []
