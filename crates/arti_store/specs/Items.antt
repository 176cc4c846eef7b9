-- What rows stand for, where the file of the contents has these bytes.
use Rattle.std.specs.Prelude.{◌≡◌, ℕ, ℤ, pos, List, ◌∷◌, ◌++◌, [], map, filter, option_map, Option, IfSome, AllPairs, Contains, if◌then◌else◌}
use Rattle.std.specs.Ordering.{is_lt}
use Rattle.std.specs.List.{find}
use Rattle.std.specs.declared.cmp.Ordering.TheVariants.{Less}
use Rattle.arti_rows.specs.Key.{Key, key_cmp}
use Rattle.arti_rows.specs.declared.rows.FileRef.{FileRef}
use Rattle.arti_rows.specs.declared.rows.Given.{Given}
use Rattle.arti_rows.specs.declared.rows.ItemRow.{ItemRow}
use Rattle.arti_rows.specs.declared.rows.Property.{Property}
use Rattle.arti_blobs.specs.Contents.{content}
use Rattle.arti_model.specs.Store.{Item, File, same_key, item_of_row, new_folder}
use Rattle.arti_model.specs.Mapped.{item_mapped, items_mapped}
use Rattle.arti_model.specs.Apply.{deployed, counted}

-- the content of a reference, with the digests that were recorded of it
abbrev pub file_in : List ℕ → FileRef → File
file_in bytes file = record { content = content bytes file; digests = file.digests }

-- rows are items whose contents are references
abbrev pub items_of : List ItemRow → List (Item FileRef)
items_of rows = map item_of_row rows

-- the item of a row
abbrev pub item_in : List ℕ → ItemRow → Item File
item_in bytes row = item_mapped (file_in bytes) (item_of_row row)

abbrev pub items_in : List ℕ → List ItemRow → List (Item File)
items_in bytes rows = items_mapped (file_in bytes) (items_of rows)

-- each row stands before those behind it in the default order of their keys
abbrev pub InOrder : List ItemRow → Type 0
InOrder rows = AllPairs (λ a b. key_cmp a.key b.key ≡ Less) rows

-- the content of an item, if it has one, is a kept one
abbrev pub HasFile : List FileRef → Item FileRef → Type 0
HasFile kept item = IfSome item.file (Contains kept)

abbrev pub HasFileIn : List FileRef → ItemRow → Type 0
HasFileIn kept row = HasFile kept (item_of_row row)

-- the row of a key
abbrev pub find_row : List ItemRow → Key → Option ItemRow
find_row rows key = find (λ row. same_key row.key key) rows

-- the rows with one more at its place, where it takes the place of one of its key
abbrev pub put_row : ItemRow → List ItemRow → List ItemRow
put_row new rows = filter (λ row. is_lt (key_cmp row.key new.key)) rows ++ new ∷ filter (λ row. is_lt (key_cmp new.key row.key)) rows

-- the same for several, one after the other
abbrev pub put_rows : List ItemRow → List ItemRow → List ItemRow
put_rows [] rows = rows
put_rows (new ∷ others) rows = put_rows others (put_row new rows)

-- ---- rows that edits make

-- the row of an item
abbrev pub row_of_item : Item FileRef → ItemRow
row_of_item item = record {
  key = item.key;
  created = item.created;
  created_by = item.created_by;
  modified = item.modified;
  modified_by = item.modified_by;
  updated = item.updated;
  given = item.given;
  file = item.file;
  props = item.props;
  stat = item.stat;
}

abbrev pub folder_row : ℤ → List ℕ → Key → ItemRow
folder_row moment user key = row_of_item (new_folder moment user key)

abbrev pub file_row : ℤ → List ℕ → Key → Given → FileRef → List Property → Option ItemRow → ItemRow
file_row moment user key given file props old = row_of_item (deployed moment user key given file props (option_map item_of_row old))

abbrev pub counted_row : ℤ → List ℕ → ItemRow → ItemRow
counted_row moment user row = row_of_item (counted moment user (item_of_row row))

-- a download of the row of a key
abbrev pub rows_with_download : List ItemRow → ℤ → List ℕ → Key → List ItemRow
rows_with_download rows moment user key = map (λ (row : ItemRow). if same_key row.key key then counted_row moment user row else row) rows

-- stands for a row past the end
abbrev pub no_row : ItemRow
no_row = folder_row (pos 0) [] (record { repo = []; path = []; name = [] })
