-- What a catalog holds: keys under ids, and a row for each.
use Rattle.std.specs.Prelude.{◌≡◌, ℕ, ◌≤◌, ◌==◌, ℤ, pos, option_map, true, false, List, [], ◌∷◌, length, map, All, Option, Some, None, IsSome, is_some, unwrap_or, slice_index_or, if◌then◌else◌}
use Rattle.arti_rows.specs.Key.{Key}
use Rattle.arti_rows.specs.declared.limits.Limits.{Limits}
use Rattle.arti_rows.specs.declared.rows.FileRef.{FileRef}
use Rattle.arti_rows.specs.declared.rows.Given.{Given}
use Rattle.arti_rows.specs.declared.rows.ItemRow.{ItemRow}
use Rattle.arti_rows.specs.declared.rows.Property.{Property}
use Rattle.arti_tree.specs.Rows.{Row, row_of, IsTree}
use Rattle.arti_tree.specs.ByKey.{by_key, KeysOnce}
use Rattle.arti_model.specs.Store.{Item, item_of_row, new_folder}
use Rattle.arti_model.specs.Apply.{is_local, deployed, counted}

-- its limits, the keys under their ids, and what stands at each id; what stands at an id that has no key doesn't matter
pub record Held : Type 0 where
  pub limits : Limits
  pub tree : List Row
  pub rows : List (Option ItemRow)

-- what stands at an id
abbrev pub at : List (Option ItemRow) → ℕ → Option ItemRow
at rows id = slice_index_or rows id None

-- stands for a row that isn't there
abbrev pub no_row : ItemRow
no_row = record {
  key = record { repo = []; path = []; name = [] };
  created = pos 0;
  created_by = [];
  modified = pos 0;
  modified_by = [];
  updated = pos 0;
  given = record { md5 = false; sha1 = false; sha256 = false };
  file = None;
  props = [];
  stat = None;
}

-- the row at an id
abbrev pub row_at_id : List (Option ItemRow) → ℕ → ItemRow
row_at_id rows id = unwrap_or (at rows id) no_row

-- the item of a key in the tree: what stands at its id
abbrev pub item_with : List (Option ItemRow) → Row → Item FileRef
item_with rows r = record (item_of_row (row_at_id rows r.id)) { key = r.key }

-- the items in the default order; their contents are references
abbrev pub items_of : List Row → List (Option ItemRow) → List (Item FileRef)
items_of tree rows = map (item_with rows) (by_key tree)

abbrev pub items_in : Held → List (Item FileRef)
items_in held = items_of held.tree held.rows

-- a key of the tree has its row: one with that key, which is a file where the key is a file's
pub record HasRow (rows : List (Option ItemRow)) (r : Row) : Type 0 where
  pub row : ItemRow
  pub there : at rows r.id ≡ Some row
  pub key : row.key ≡ r.key
  pub kind : is_some row.file ≡ r.is_file

-- the rows are those of the tree's keys
pub record Fits (tree : List Row) (rows : List (Option ItemRow)) : Type 0 where
  pub rules : IsTree tree
  pub once : KeysOnce tree
  pub each : All (HasRow rows) tree

-- something stands at an id
abbrev pub HasSome : List (Option ItemRow) → ℕ → Type 0
HasSome rows id = IsSome (at rows id)

-- the ids are those of keys in the tree
abbrev pub AreLive : List Row → List ℕ → Type 0
AreLive tree ids = All (λ id. IsSome (row_of tree id)) ids

-- no more keys than the limit, all of the one repository
pub record Keeps (limits : Limits) (tree : List Row) : Type 0 where
  pub most : length tree ≤ limits.items
  pub local : All (λ r. is_local r.key ≡ true) tree

-- what stands at the ids, with another row at one of them
pub record IsSet (old new : List (Option ItemRow)) (id : ℕ) (row : ItemRow) : Type 0 where
  pub each : (i : ℕ) → at new i ≡ (if i == id then Some row else at old i)

-- what stands at ids, once rows have come to them one after the other
abbrev pub put_at : List ℕ → List ItemRow → (ℕ → Option ItemRow) → ℕ → Option ItemRow
put_at [] news before = before
put_at (id ∷ ids) [] before = before
put_at (id ∷ ids) (new ∷ news) before = put_at ids news (λ i. if i == id then Some new else before i)

pub record IsPut (ids : List ℕ) (news : List ItemRow) (old new : List (Option ItemRow)) : Type 0 where
  pub each : (i : ℕ) → at new i ≡ put_at ids news (at old) i

-- a reference is itself a content
abbrev pub itself : FileRef → FileRef
itself ref = ref

-- ---- rows that edits make

-- the row of an item
abbrev pub row_of_item : Item FileRef → ItemRow
row_of_item item = record {
  key = item.key;
  created = item.created;
  created_by = item.created_by;
  modified = item.modified;
  modified_by = item.modified_by;
  updated = item.updated;
  given = item.given;
  file = item.file;
  props = item.props;
  stat = item.stat;
}

abbrev pub folder_row : ℤ → List ℕ → Key → ItemRow
folder_row moment user key = row_of_item (new_folder moment user key)

abbrev pub file_row : ℤ → List ℕ → Key → Given → FileRef → List Property → Option ItemRow → ItemRow
file_row moment user key given file props old = row_of_item (deployed moment user key given file props (option_map item_of_row old))

abbrev pub counted_row : ℤ → List ℕ → ItemRow → ItemRow
counted_row moment user row = row_of_item (counted moment user (item_of_row row))
