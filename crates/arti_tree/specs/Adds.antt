-- A key that is put, with the folders above it that are missing.
use Rattle.std.specs.Prelude.{◌≡◌, ℕ, ◌+◌, Bool, true, false, ◌&&◌, nat_lt, if◌then◌else◌, List, [], ◌∷◌, ◌++◌, length, Option, Some, None, option_map}
use Rattle.std.specs.Option.{option_map_or, option_or, is_none, is_some}
use Rattle.std.specs.List.{filter, find}
use Rattle.arti_rows.specs.Key.{Key, folders_above}
use Rattle.arti_tree.specs.declared.fault.TreeFault.{TreeFault}
use Rattle.arti_tree.specs.declared.fault.TreeFault.TheVariants.{FileAbove, Taken, Full}
use Rattle.arti_tree.specs.Ids.{Lacks}
use Rattle.arti_tree.specs.Rows.{Row, row_of, row_at, with_row}

-- a file has the key
abbrev pub is_file_at : List Row → Key → Bool
is_file_at rows key = option_map_or (λ r. r.is_file) (row_at rows key) false

-- no row has the key
abbrev pub is_missing : List Row → Key → Bool
is_missing rows key = is_none (row_at rows key)

-- the topmost folder above a key that is a file
abbrev pub file_above : List Row → Key → Option Key
file_above rows key = find (is_file_at rows) (folders_above key)

-- the keys that come with a key: the folders above it that are missing, the topmost first, and the key itself last
abbrev pub keys_added : List Row → Key → List Key
keys_added rows key = filter (is_missing rows) (folders_above key) ++ key ∷ []

-- why a key is not put, with so many rows at most
abbrev pub put_fault : List Row → Key → ℕ → Option TreeFault
put_fault rows key limit =
    option_or (option_map FileAbove (file_above rows key))
    (if is_some (row_at rows key) then Some Taken else (if nat_lt limit (length rows + length (keys_added rows key)) then Some Full else None))

-- nothing follows
abbrev pub is_end : List Key → Bool
is_end [] = true
is_end (k ∷ keys) = false

-- the rows of these ids and keys: the last may be a file, and the others are folders
abbrev pub rows_of : List ℕ → List Key → Bool → List Row
rows_of [] keys is_file = []
rows_of (id ∷ ids) [] is_file = []
rows_of (id ∷ ids) (k ∷ keys) is_file = record { id = id; key = k; is_file = is_file && is_end keys } ∷ rows_of ids keys is_file

-- with rows more
abbrev pub with_rows : List Row → List Row → List Row
with_rows [] rows = rows
with_rows (r ∷ more) rows = with_rows more (with_row r rows)

-- the ids are those of no row, and differ
abbrev pub AreFree : List Row → List ℕ → Type 0
AreFree rows [] = Unit {0}
AreFree rows (id ∷ ids) = (row_of rows id ≡ None) × Lacks ids id × AreFree rows ids

-- these keys are added under these ids
pub record Adds (rows : List Row) (keys : List Key) (is_file : Bool) (ids : List ℕ) (new : List Row) : Type 0 where
  pub each : length ids ≡ length keys
  pub free : AreFree rows ids
  pub added : new ≡ with_rows (rows_of ids keys is_file) rows
