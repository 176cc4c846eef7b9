-- The rows of each repository.
use Rattle.std.specs.Prelude.{ℕ, List, []}
use Rattle.std.specs.Option.{option_map_or}
use Rattle.std.specs.declared.alloc.Global.{Global}
use Rattle.std.specs.Prelude.{Vec}
use Rattle.std.specs.Prelude.{String}
use Rattle.std.specs.BTreeMap.{BTreeMap, get_by_text}

-- the list of a repository, empty where there is none
abbrev pub list_of : BTreeMap (String Global) (Vec ℕ Global) → List ℕ → List ℕ
list_of lists repo = option_map_or (λ v. v.items) (get_by_text lists repo) []
