-- The list of ids under a key and a value.
use Rattle.std.specs.Prelude.{ℕ, List, Option, None, Some, String}
use Rattle.std.specs.BTreeMap.{BTreeMap, get_by_text}
use Rattle.arti_ids.specs.Ids.{IdList}
use Rattle.arti_ids.specs.Found.{list_under}
use Rattle.arti_ids.specs.declared.text_lists.TextLists.{TextLists}

abbrev pub list_in : Option TextLists → List ℕ → Option IdList
list_in None text = None
list_in (Some lists) text = list_under lists text

-- the list under a key and a value
abbrev pub list_at : {Y : Type 0} → BTreeMap (String Y) TextLists → List ℕ → List ℕ → Option IdList
list_at values key value = list_in (get_by_text values key) value
