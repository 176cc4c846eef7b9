-- What is kept of a list of ids.
use Rattle.std.specs.Prelude.{[], ◌∷◌, vec_capacity}
use Rattle.arti_ids.specs.declared.kept.Kept.{Kept}
use Rattle.arti_ids.specs.declared.kept.Kept.TheVariants.{Empty, One, Many}
use Rattle.arti_ids.specs.Ids.{IdList}

-- the ids, and for how many there is room
abbrev pub kept_list : Kept → IdList
kept_list Empty = record { ids = []; capacity = 1 }
kept_list (One id) = record { ids = id ∷ []; capacity = 1 }
kept_list (Many ids) = record { ids = ids.value.items; capacity = vec_capacity ids.value }
