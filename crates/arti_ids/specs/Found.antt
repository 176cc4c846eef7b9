-- Lists of ids under keys and under texts, as they are kept. Under a key an id stands alone, or in a list of many.
use Rattle.std.specs.Prelude.{ℕ, List, [], ◌∷◌, Option, None, Some, option_map}
use Rattle.std.specs.declared.cmp.Ordering.{Ordering}
use Rattle.std.specs.BTreeMap.{get, get_by_text}
use Rattle.arti_ids.specs.declared.lists.Lists.{Lists}
use Rattle.arti_ids.specs.declared.text_lists.TextLists.{TextLists}
use Rattle.arti_ids.specs.Ids.{IdList}

-- the place of one id, filled or not
abbrev pub alone : Option ℕ → IdList
alone None = record { ids = []; capacity = 1 }
alone (Some id) = record { ids = id ∷ []; capacity = 1 }

-- the list of many, or else the place of one
abbrev pub list_from : Option IdList → Option (Option ℕ) → Option IdList
list_from (Some list) one = Some list
list_from None one = option_map alone one

-- the list under a key
abbrev pub found : {K : Type 0} → (K → K → Ordering) → Lists K → K → Option IdList
found cmp lists key = list_from (get cmp lists.many key) (get cmp lists.ones key)

-- the list under a text
abbrev pub list_under : TextLists → List ℕ → Option IdList
list_under lists text = get_by_text lists.lists text
