-- What the index has for each feature of rows.
use Rattle.std.specs.Prelude.{◌≡◌, ℕ, Bool, false, List, Option}
use Rattle.std.specs.Option.{option_map_or}
use Rattle.std.specs.Ordering.{nat_cmp}
use Rattle.std.specs.Cmp.Lexicographic.{slice_cmp}
use Rattle.std.specs.Map.{keys_of}
use Rattle.std.specs.List.Sorted.{IsStrictlySortedBy}
use Rattle.arti_props.specs.declared.row.Row.{Row}
use Rattle.arti_props.specs.declared.index.Index.{Index}
use Rattle.arti_ids.specs.Ids.{IdList}
use Rattle.arti_ids.specs.Lists.{ids_of}
use Rattle.arti_props.specs.Lists.{list_at}
use Rattle.arti_ids.specs.Found.{found}
use Rattle.arti_props.specs.Rows.{Feature, Pair, Md5, Sha1, Sha256, has, ids_where}

abbrev pub list_of : Index → Feature → Option IdList
list_of index (Pair key value) = list_at index.values key value
list_of index (Md5 digest) = found (slice_cmp nat_cmp) index.md5s digest
list_of index (Sha1 digest) = found (slice_cmp nat_cmp) index.sha1s digest
list_of index (Sha256 digest) = found (slice_cmp nat_cmp) index.sha256s digest

-- there is a row, and it has the feature
abbrev pub found_has : Feature → Option Row → Bool
found_has feature found = option_map_or (has feature) found false

-- the rows ascend, and the index has for each feature the ids of the rows that have it
pub record Stands (index : Index) (rows : List (ℕ × Row)) : Type 0 where
  pub ordered : IsStrictlySortedBy nat_cmp (keys_of rows)
  pub indexed : (f : Feature) → ids_of (list_of index f) ≡ ids_where (has f) rows
