-- A repository whose files have any kind of content: lists of items, without index.
use Rattle.std.specs.Prelude.{◌≡◌, ℕ, ℤ, Bool, false, not, ◌&&◌, List, [], ◌∷◌, ◌++◌, filter, codes, Option, None, is_some}
use Rattle.std.specs.List.{find, list_any, AllPairs}
use Rattle.std.specs.Ordering.{is_lt}
use Rattle.std.specs.declared.cmp.Ordering.TheVariants.{Less}
use Rattle.arti_rows.specs.Key.{Key, key_cmp, folders_above}
pub use Rattle.arti_rows.specs.Key.{same_key}
use Rattle.arti_rows.specs.declared.rows.Digests.{Digests}
use Rattle.arti_rows.specs.declared.rows.FileRef.{FileRef}
use Rattle.arti_rows.specs.declared.rows.Given.{Given}
use Rattle.arti_rows.specs.declared.rows.ItemRow.{ItemRow}
use Rattle.arti_rows.specs.declared.rows.Property.{Property}
use Rattle.arti_rows.specs.declared.rows.Stat.{Stat}

-- a file's whole content and the digests that were recorded of it
pub record File : Type 0 where
  pub content : List ℕ
  pub digests : Digests

-- an item: a file with that kind of content, or a folder where it has none
pub record Item (F : Type 0) : Type 0 where
  pub key : Key
  pub created : ℤ
  pub created_by : List ℕ
  pub modified : ℤ
  pub modified_by : List ℕ
  pub updated : ℤ
  pub given : Given
  pub file : Option F
  pub props : List Property
  pub stat : Option Stat

-- all that a repository holds; its items stand in the default order
pub record Repository (F : Type 0) : Type 0 where
  pub items : List (Item F)

-- a row's meaning, whose content is a reference
abbrev pub item_of_row : ItemRow → Item FileRef
item_of_row row = record {
  key = row.key;
  created = row.created;
  created_by = row.created_by;
  modified = row.modified;
  modified_by = row.modified_by;
  updated = row.updated;
  given = row.given;
  file = row.file;
  props = row.props;
  stat = row.stat;
}

-- the repository of a new store
abbrev pub opening : {F : Type 0} → Repository F
opening = record { items = [] }

-- ---- look-ups

-- the item of a key
abbrev pub find_item : {F : Type 0} → List (Item F) → Key → Option (Item F)
find_item items key = find (λ item. same_key item.key key) items

-- whether the item is a file
abbrev pub is_file : {F : Type 0} → Item F → Bool
is_file item = is_some item.file

-- whether a file stands at the key
abbrev pub has_file : {F : Type 0} → List (Item F) → Key → Bool
has_file items key = list_any (λ item. same_key item.key key && is_file item) items

-- whether something stands at the key
abbrev pub has_item : {F : Type 0} → List (Item F) → Key → Bool
has_item items key = list_any (λ item. same_key item.key key) items

-- ---- the default order

-- each item stands before those behind it
abbrev pub InDefaultOrder : {F : Type 0} → List (Item F) → Type 0
InDefaultOrder items = AllPairs (λ a b. key_cmp a.key b.key ≡ Less) items

-- the items with one more at its place in the default order, where it takes the place of one of its key
abbrev pub put_item : {F : Type 0} → Item F → List (Item F) → List (Item F)
put_item new items =
    filter (λ item. is_lt (key_cmp item.key new.key)) items ++ new ∷ filter (λ item. is_lt (key_cmp new.key item.key)) items

-- the same for several, one after the other
abbrev pub put_items : {F : Type 0} → List (Item F) → List (Item F) → List (Item F)
put_items [] items = items
put_items (new ∷ others) items = put_items others (put_item new items)

-- ---- folders

-- the repository that there is
abbrev pub local_key : List ℕ
local_key = codes "generic-local"

-- a folder that is made
abbrev pub new_folder : {F : Type 0} → ℤ → List ℕ → Key → Item F
new_folder moment user key = record {
  key = key;
  created = moment;
  created_by = user;
  modified = moment;
  modified_by = user;
  updated = moment;
  given = record { md5 = false; sha1 = false; sha256 = false };
  file = None;
  props = [];
  stat = None;
}

-- the folders above a key that aren't there
abbrev pub missing_folders : {F : Type 0} → List (Item F) → Key → List Key
missing_folders items key = filter (λ folder. not (has_item items folder)) (folders_above key)
