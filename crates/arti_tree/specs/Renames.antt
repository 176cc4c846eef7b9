-- A row that gets another key, and the rows beneath it with it.
use Rattle.std.specs.Prelude.{◌≡◌, ℕ, ◌==◌, ◌||◌, ◌&&◌, not, nat_lt, Bool, true, false, if◌then◌else◌, map, drop, List, [], ◌∷◌, ◌++◌, length, Option, Some, None, IsSome}
use Rattle.std.specs.Option.{option_map_or, is_some}
use Rattle.std.specs.List.{filter, list_any}
use Rattle.arti_rows.specs.Key.{Key, key_of, whole_of, folders_above, same_key}
use Rattle.arti_rows.specs.Names.{key_fault}
use Rattle.arti_tree.specs.declared.fault.TreeFault.{TreeFault}
use Rattle.arti_tree.specs.declared.fault.TreeFault.TheVariants.{Taken}
use Rattle.arti_tree.specs.Rows.{Row, row_of, row_at, IsLive}
use Rattle.arti_tree.specs.Slots.{no_key}

-- a key is this one, or lies beneath it at whatever depth
abbrev pub is_within : Key → Key → Bool
is_within top k = same_key k top || list_any (λ f. same_key f top) (folders_above k)

-- path and name joined, with those of one key at their front replaced by those of another
abbrev pub moved_whole : Key → Key → Key → List ℕ
moved_whole from to k = whole_of to ++ drop (length (whole_of from)) (whole_of k)

-- the key that a key gets where one is renamed: it changes where it is that one or lies beneath it
abbrev pub moved : Key → Key → Key → Key
moved from to k = if is_within from k then key_of to.repo (moved_whole from to k) else k

abbrev pub moved_row : Key → Key → Row → Row
moved_row from to r = record { id = r.id; key = moved from to r.key; is_file = r.is_file }

-- the rows as one of them gets another key
abbrev pub renamed : List Row → ℕ → Key → List Row
renamed rows id to = option_map_or (λ r. map (moved_row r.key to) rows) (row_of rows id) rows

-- the rows without that of an id and those beneath it
abbrev pub without_within : List Row → ℕ → List Row
without_within rows id = option_map_or (λ top. filter (λ r. not (is_within top.key r.key)) rows) (row_of rows id) rows

-- why a row is not renamed
abbrev pub rename_fault : List Row → ℕ → Key → Option TreeFault
rename_fault rows id to = if is_some (row_of rows id) && is_some (row_at rows to) then Some Taken else None

-- a path may have so many bytes and segments
abbrev pub fits : ℕ → ℕ → Bool
fits long deep = not (nat_lt 1024 long || nat_lt 64 deep)

-- each key that changes keeps the rules of keys
abbrev pub StayKeys : List Row → Key → Key → Type 0
StayKeys rows from to = (r : Row) → IsLive rows r → is_within from r.key ≡ true → key_fault to.repo (moved_whole from to r.key) ≡ None

-- whether a list has an id
abbrev pub has : List ℕ → ℕ → Bool
has ids i = list_any (λ x. x == i) ids

-- each id stands there once
abbrev pub Once : List ℕ → Type 0
Once [] = Unit {0}
Once (id ∷ ids) = (has ids id ≡ false) × Once ids

-- the ids of the rows within a key, each once
pub record AreWithin (rows : List Row) (from : Key) (ids : List ℕ) : Type 0 where
  pub once : Once ids
  pub each : (i : ℕ) → has ids i ≡ option_map_or (λ r. is_within from r.key) (row_of rows i) false

-- the key that the row of an id gets
abbrev pub key_for : List Row → Key → Key → ℕ → Key
key_for rows from to i = option_map_or (λ r. moved from to r.key) (row_of rows i) no_key

-- what stands behind a folder's path and name in a path beneath it
abbrev pub may_follow : List ℕ → Bool
may_follow [] = true
may_follow (b ∷ rest) = b == 47

-- one row with another key
abbrev pub rekeyed_row : ℕ → Key → Row → Row
rekeyed_row id key r = if r.id == id then record { id = r.id; key = key; is_file = r.is_file } else r

abbrev pub rekeyed : ℕ → Key → List Row → List Row
rekeyed id key rows = map (rekeyed_row id key) rows

-- rows with other keys, one after the other
abbrev pub rekeyed_all : List ℕ → List Key → List Row → List Row
rekeyed_all [] keys rows = rows
rekeyed_all (id ∷ ids) [] rows = rows
rekeyed_all (id ∷ ids) (k ∷ keys) rows = rekeyed_all ids keys (rekeyed id k rows)

-- no two live rows have the same key
abbrev pub Differ : List Row → Type 0
Differ rows = (r : Row) → IsLive rows r → row_at rows r.key ≡ Some r

-- each gets a key that isn't there then
abbrev pub CanRekey : List Row → List ℕ → List Key → Type 0
CanRekey rows [] keys = Unit {0}
CanRekey rows (id ∷ ids) [] = Unit {0}
CanRekey rows (id ∷ ids) (k ∷ keys) = IsSome (row_of rows id) × (row_at rows k ≡ None) × CanRekey (rekeyed id k rows) ids keys

-- the rows, of which those of these ids are still to get these keys
pub record Rekeying (start : List Row) (all_ids : List ℕ) (all_keys : List Key) (rows : List Row) (ids : List ℕ) (keys : List Key) : Type 0 where
  pub each : length ids ≡ length keys
  pub can : CanRekey rows ids keys
  pub differ : Differ rows
  pub is : rekeyed_all ids keys rows ≡ rekeyed_all all_ids all_keys start
