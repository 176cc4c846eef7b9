-- Lists of ids that are found under something. A list that isn't there counts as an empty one.
use Rattle.std.specs.Prelude.{ℕ, List, [], Option, MatchOption}
use Rattle.std.specs.Option.{option_map_or}
use Rattle.arti_ids.specs.Ids.{IdList, Takes}

abbrev pub ids_of : Option IdList → List ℕ
ids_of found = option_map_or (λ list. list.ids) found []

-- the list is there, and takes this id without an allocation
abbrev pub IsReady : ℕ → Option IdList → Type 0
IsReady id found = MatchOption found ⊥ (Takes id)
