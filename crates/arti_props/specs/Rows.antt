-- Rows of properties and digests under ids, and which of them answer what is asked. The rows stand in ascending order of ids.
use Rattle.std.specs.Prelude.{ℕ, Bool, false, ◌==◌, ◌&&◌, List, [], ◌∷◌, ◌++◌}
use Rattle.std.specs.List.{filter, list_any}
use Rattle.std.specs.Option.{option_map_or}
use Rattle.std.specs.Map.{lookup, keys_of}
use Rattle.std.specs.Str.{bytes_eq}
use Rattle.arti_rows.specs.declared.rows.Property.{Property}
use Rattle.arti_rows.specs.declared.rows.Digests.{Digests}
use Rattle.arti_props.specs.declared.row.Row.{Row}
use Rattle.arti_ids.specs.Ids.{lower, higher}

-- the rows with this one in its place
abbrev pub set_row : ℕ → Row → List (ℕ × Row) → List (ℕ × Row)
set_row id row rows = lower (λ e. e.0) id rows ++ (id, row) ∷ higher (λ e. e.0) id rows

-- the other rows
abbrev pub drop_row : ℕ → List (ℕ × Row) → List (ℕ × Row)
drop_row id rows = lower (λ e. e.0) id rows ++ higher (λ e. e.0) id rows

-- the pairs of a row, none where it isn't live
abbrev pub pairs_of : ℕ → List (ℕ × Row) → List Property
pairs_of id rows = option_map_or (λ row. row.pairs) (lookup (λ k. k == id) rows) []

-- what a row may have: a pair, or a digest of its content
pub data Feature : Type 0 where
  Pair : (key value : List ℕ) → Feature
  Md5 : (digest : List ℕ) → Feature
  Sha1 : (digest : List ℕ) → Feature
  Sha256 : (digest : List ℕ) → Feature

-- the property is that pair
abbrev pub is_pair : List ℕ → List ℕ → Property → Bool
is_pair key value p = bytes_eq p.key key && bytes_eq p.value value

-- the digests are of a content with it
abbrev pub has_digest : Feature → Digests → Bool
has_digest (Pair key value) digests = false
has_digest (Md5 digest) digests = bytes_eq digests.md5 digest
has_digest (Sha1 digest) digests = bytes_eq digests.sha1 digest
has_digest (Sha256 digest) digests = bytes_eq digests.sha256 digest

-- the row has it
abbrev pub has : Feature → Row → Bool
has (Pair key value) row = list_any (is_pair key value) row.pairs
has (Md5 digest) row = option_map_or (has_digest (Md5 digest)) row.digests false
has (Sha1 digest) row = option_map_or (has_digest (Sha1 digest)) row.digests false
has (Sha256 digest) row = option_map_or (has_digest (Sha256 digest)) row.digests false

-- the ids of the rows that pass
abbrev pub ids_where : (Row → Bool) → List (ℕ × Row) → List ℕ
ids_where test rows = keys_of (filter (λ e. test e.1) rows)
