-- What contracts see of a tree: its live rows, ascending by id.
use Rattle.std.specs.Prelude.{◌≡◌, ℕ, ◌+◌, ◌<◌, ◌≤◌, ◌^◌, ◌==◌, ◌&&◌, Bool, false, true, nat_lt, nat_eq, not, if◌then◌else◌, map, List, [], ◌∷◌, length, Option, Some, None, option_map}
use Rattle.std.specs.List.{count_by}
use Rattle.std.specs.List.{filter, find, list_any}
use Rattle.std.specs.Option.{option_map_or}
use Rattle.std.specs.Ordering.{is_lt}
use Rattle.std.specs.Cmp.Lexicographic.{pointwise}
use Rattle.arti_rows.specs.Key.{Key, key_of, key_cmp, same_key, folders_above, root_path}
use Rattle.arti_rows.specs.Names.{IsKey}

-- an item of the tree, under its id
pub record Row : Type 0 where
  pub id : ℕ
  pub key : Key
  pub is_file : Bool

-- the ids of rows
abbrev pub ids : List Row → List ℕ
ids rows = map (λ r. r.id) rows

-- the row of an id
abbrev pub row_of : List Row → ℕ → Option Row
row_of rows id = find (λ r. r.id == id) rows

-- the row of a key
abbrev pub row_at : List Row → Key → Option Row
row_at rows key = find (λ r. same_key r.key key) rows

-- whether an item lies in a folder, and not at the root of its repository
abbrev pub has_folder : Key → Bool
has_folder k = not (pointwise nat_eq k.path root_path)

-- the folder that it lies in
abbrev pub folder_of : Key → Key
folder_of k = key_of k.repo k.path

-- a row lies in a folder, with nothing between
abbrev pub lies_in : Key → Row → Bool
lies_in folder r = has_folder r.key && same_key (folder_of r.key) folder

-- a row is of a repository
abbrev pub is_of : List ℕ → Row → Bool
is_of repo r = pointwise nat_eq repo r.key.repo

-- the id of the folder that an item lies in
abbrev pub folder_id : List Row → Key → Option ℕ
folder_id rows k = if has_folder k then option_map (λ r. r.id) (row_at rows (folder_of k)) else None

-- how many rows come before a key in the default order
abbrev pub rank_of : List Row → Key → ℕ
rank_of rows key = count_by (λ r. is_lt (key_cmp r.key key)) rows

-- with one row more, before the first of a greater id
abbrev pub with_row : Row → List Row → List Row
with_row r [] = r ∷ []
with_row r (x ∷ rows) = if nat_lt r.id x.id then r ∷ x ∷ rows else x ∷ with_row r rows

-- without the row of an id
abbrev pub without_row : ℕ → List Row → List Row
without_row id rows = filter (λ r. not (r.id == id)) rows

-- without the rows of ids, one after the other
abbrev pub without_rows : List ℕ → List Row → List Row
without_rows [] rows = rows
without_rows (id ∷ gone) rows = without_rows gone (without_row id rows)

-- the rows ascend by id, from n on
abbrev pub RowsFrom : ℕ → List Row → Type 0
RowsFrom n [] = Unit {0}
RowsFrom n (r ∷ rows) = (n ≤ r.id) × RowsFrom (r.id + 1) rows

-- a folder is there
pub record IsFolder (rows : List Row) (key : Key) : Type 0 where
  pub row : Row
  pub there : row_at rows key ≡ Some row
  pub folder : row.is_file ≡ false

-- an item's folder is there, or it lies in none
abbrev pub HasFolder : List Row → Key → Type 0
HasFolder rows key = has_folder key ≡ true → IsFolder rows (folder_of key)

-- a row is live
abbrev pub IsLive : List Row → Row → Type 0
IsLive rows r = row_of rows r.id ≡ Some r

-- What holds of the rows of each tree: they ascend by id, their keys are keys and differ, and each lies in a folder that is there.
pub record IsTree (rows : List Row) : Type 0 where
  pub ascend : RowsFrom 0 rows
  pub few : length rows < 2 ^ 32
  pub keys : (r : Row) → IsLive rows r → IsKey r.key
  pub differ : (r : Row) → IsLive rows r → row_at rows r.key ≡ Some r
  pub folders : (r : Row) → IsLive rows r → HasFolder rows r.key

-- a row lies beneath a key, at whatever depth
abbrev pub lies_beneath : Key → Row → Bool
lies_beneath folder r = list_any (λ f. same_key f folder) (folders_above r.key)

-- a row is live, and nothing lies beneath it
abbrev pub may_go : List Row → ℕ → Bool
may_go rows id = option_map_or (λ r. not (list_any (lies_beneath r.key) rows)) (row_of rows id) false
