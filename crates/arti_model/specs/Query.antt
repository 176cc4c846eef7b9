-- Queries for items (after JFrog's Artifactory Query Language, in one form): which rows are selected, and the text that tells of them.
use Rattle.std.specs.Prelude.{ℕ, zero, suc, ◌+◌, ◌-◌, ℤ, Bool, true, false, ◌&&◌, nat_le, nat_lt, nat_eq, ◌==◌, if◌then◌else◌, List, [], ◌∷◌, ◌++◌, length, map, filter, take, drop, take_while, flat_map, codes, decimal, Option, Some, None, option_map}
use Rattle.std.specs.List.{list_all, starts_with}
use Rattle.std.specs.Cmp.Lexicographic.{pointwise}
use Rattle.json.specs.Print.{quoted}
use Rattle.arti_time.specs.Printed.{printed}
use Rattle.arti_rows.specs.Key.{Key}
use Rattle.arti_rows.specs.Names.{is_repo_byte}
use Rattle.arti_model.specs.Store.{Repository, Item, File, is_file}

-- ---- the fields of an item

-- the fields of an item that a query may name
pub data Field : Type 0 where
  Repo : Field
  Path : Field
  Name : Field
  Kind : Field
  Size : Field
  Created : Field
  CreatedBy : Field
  Modified : Field
  ModifiedBy : Field
  Updated : Field

-- the length of a file's content
abbrev pub file_size : File → ℕ
file_size file = length file.content

-- what an item has in them; a folder has no size
pub record Facts : Type 0 where
  pub key : Key
  pub size : Option ℕ
  pub created : ℤ
  pub created_by : List ℕ
  pub modified : ℤ
  pub modified_by : List ℕ
  pub updated : ℤ

-- where `size` tells the length of a content
abbrev pub facts_of : {F : Type 0} → (F → ℕ) → Item F → Facts
facts_of size item = record {
  key = item.key;
  size = option_map size item.file;
  created = item.created;
  created_by = item.created_by;
  modified = item.modified;
  modified_by = item.modified_by;
  updated = item.updated;
}

-- the value of a field; an item may have none
pub data Value : Type 0 where
  Absent : Value
  Words : List ℕ → Value
  Number : ℕ → Value
  Date : ℤ → Value

-- an item that has a size is a file
abbrev pub kind_name : Option ℕ → List ℕ
kind_name None = codes "folder"
kind_name (Some size) = codes "file"

abbrev pub number_or_none : Option ℕ → Value
number_or_none None = Absent
number_or_none (Some n) = Number n

abbrev pub value : Facts → Field → Value
value facts Repo = Words facts.key.repo
value facts Path = Words facts.key.path
value facts Name = Words facts.key.name
value facts Kind = Words (kind_name facts.size)
value facts Size = number_or_none facts.size
value facts Created = Date facts.created
value facts CreatedBy = Words facts.created_by
value facts Modified = Date facts.modified
value facts ModifiedBy = Words facts.modified_by
value facts Updated = Date facts.updated

-- ---- what is selected

-- what is asked of an item
pub data Criterion : Type 0 where
  -- the field's value equals this text
  Equals : Field → List ℕ → Criterion

-- a query: what is asked of the items, how many are left out at the front, and how many may be answered
pub record Query : Type 0 where
  pub criterion : Criterion
  pub offset : ℕ
  pub limit : Option ℕ

-- the query for the items of a repository
abbrev pub all_in : List ℕ → Query
all_in repo = record { criterion = Equals Repo repo; offset = 0; limit = None }

-- whether a value equals a text
abbrev pub equals_words : Value → List ℕ → Bool
equals_words (Words words) text = pointwise nat_eq words text
equals_words Absent text = false
equals_words (Number n) text = false
equals_words (Date moment) text = false

abbrev pub holds : Criterion → Facts → Bool
holds (Equals field text) facts = equals_words (value facts field) text

-- whether the criterion asks of what kind an item is
abbrev pub asks_kind : Criterion → Bool
asks_kind (Equals Kind text) = true
asks_kind (Equals field text) = false

-- the items among which is selected: the files, unless their kind is asked
abbrev pub roots : {F : Type 0} → Criterion → Repository F → List (Item F)
roots criterion r = if asks_kind criterion then r.items else filter is_file r.items

-- those for which the criterion holds, in the default order, which is that of a repository's items
abbrev pub selected : {F : Type 0} → (F → ℕ) → Criterion → Repository F → List (Item F)
selected size criterion r = filter (λ item. holds criterion (facts_of size item)) (roots criterion r)

-- no more than so many
abbrev pub at_most : {A : Type 0} → Option ℕ → List A → List A
at_most None xs = xs
at_most (Some n) xs = take n xs

-- those that are answered
abbrev pub page : {F : Type 0} → (F → ℕ) → Query → Repository F → List (Item F)
page size q r = at_most q.limit (drop q.offset (selected size q.criterion r))

-- ---- the reply's text: JSON (RFC 8259) without spaces

-- texts with commas between them
abbrev pub with_commas : List (List ℕ) → List ℕ
with_commas [] = []
with_commas (text ∷ texts) = text ++ flat_map (λ (t : List ℕ). 44 ∷ t) texts

-- the fields that are shown, in the order in which they are shown, each with its name
abbrev pub shown_fields : List (List ℕ × Field)
shown_fields =
    (codes "repo", Repo) ∷ (codes "path", Path) ∷ (codes "name", Name) ∷ (codes "type", Kind) ∷ (codes "size", Size) ∷ (codes "created", Created)
    ∷ (codes "created_by", CreatedBy) ∷ (codes "modified", Modified) ∷ (codes "modified_by", ModifiedBy) ∷ (codes "updated", Updated) ∷ []

-- a member of an object
abbrev pub member : List ℕ → List ℕ → List ℕ
member name text = 34 ∷ (name ++ 34 ∷ 58 ∷ text)

-- a field as a member of its row's object, if it has a value
abbrev pub shown_value : List ℕ → Value → List (List ℕ)
shown_value name Absent = []
shown_value name (Words words) = member name (quoted words) ∷ []
shown_value name (Number n) = member name (decimal n) ∷ []
shown_value name (Date moment) = member name (quoted (printed moment)) ∷ []

-- the object of a row
abbrev pub row_text : Facts → List ℕ
row_text facts = 123 ∷ (with_commas (flat_map (λ (f : List ℕ × Field). shown_value f.0 (value facts f.1)) shown_fields) ++ 125 ∷ [])

-- the limit, where there is one
abbrev pub limit_text : Option ℕ → List ℕ
limit_text None = []
limit_text (Some n) = codes ",\"limit\":" ++ decimal n

-- where the rows stand among those that are selected
abbrev pub range_text : ℕ → Option ℕ → ℕ → List ℕ
range_text offset limit total =
    codes "{\"start_pos\":" ++ decimal offset ++ codes ",\"end_pos\":" ++ decimal (offset + total) ++ codes ",\"total\":" ++ decimal total
    ++ limit_text limit ++ codes "}"

-- the reply for these rows
unfoldable pub reply_text : ℕ → Option ℕ → List Facts → List ℕ
reply_text offset limit rows =
    codes "{\"results\":[" ++ with_commas (map row_text rows) ++ codes "],\"range\":" ++ range_text offset limit (length rows) ++ codes "}"

-- the reply to a query
abbrev pub query_text : {F : Type 0} → (F → ℕ) → Query → Repository F → List ℕ
query_text size q r = reply_text q.offset q.limit (map (facts_of size) (page size q r))

-- ---- the one form of query that is read: items.find({"repo":"KEY"})

abbrev pub before_key : List ℕ
before_key = codes "items.find({\"repo\":\""

abbrev pub behind_key : List ℕ
behind_key = codes "\"})"

-- 1 to 64 of the characters that a repository's key has
abbrev pub is_thin_key : List ℕ → Bool
is_thin_key key = nat_lt 0 (length key) && nat_le (length key) 64 && list_all is_repo_byte key

-- the body with that key
abbrev pub thin_body : List ℕ → List ℕ
thin_body key = before_key ++ key ++ behind_key

-- what stands where the key does
abbrev pub thin_middle : List ℕ → List ℕ
thin_middle body = take (length body - 23) (drop 20 body)

-- the key in a body of that form
abbrev pub thin_key : List ℕ → Option (List ℕ)
thin_key body =
    let key = thin_middle body in
    if is_thin_key key && pointwise nat_eq body (thin_body key) then Some key else None

-- the characters of a key that stand in these bytes where the key does
abbrev pub key_so_far : List ℕ → List ℕ
key_so_far front = take_while is_repo_byte (drop 20 front)

-- the key of a body that begins with these bytes: as far as it goes, and some letter where it hasn't begun
abbrev pub key_to_be : List ℕ → List ℕ
key_to_be front = if length (key_so_far front) == 0 then codes "a" else key_so_far front

-- whether these bytes are the front of a body of that form
abbrev pub is_thin_front : List ℕ → Bool
is_thin_front front = is_thin_key (key_to_be front) && starts_with nat_eq (thin_body (key_to_be front)) front

-- the length of the longest of the fronts of a body, of at most n bytes, that is the front of a body of that form
abbrev pub longest_front : ℕ → List ℕ → ℕ
longest_front zero body = 0
longest_front (suc n) body = if is_thin_front (take (suc n) body) then suc n else longest_front n body

-- up to where a body might become one of that form
abbrev pub thin_end : List ℕ → ℕ
thin_end body = longest_front (length body) body
