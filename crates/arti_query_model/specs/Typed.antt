-- Queries typed: what a query means, or its first fault.
use Rattle.std.specs.Prelude.{ℕ, Bool, true, false, ◌&&◌, ◌||◌, nat_lt, if◌then◌else◌, List, [], ◌∷◌, take, codes, ℤ, Option, Some, None, is_some, Result, Ok, Err}
use Rattle.std.specs.List.{list_any}
use Rattle.std.specs.Str.{bytes_eq}
use Rattle.std.specs.Option.{unwrap_or}
use Rattle.arti_aql_parse.specs.Tree.{PlainQuery}
use Rattle.arti_aql_parse.specs.declared.query.Sort.{Sort}
use Rattle.arti_query_model.specs.declared.fields.Rel.{Rel}
use Rattle.arti_query_model.specs.declared.fields.Rel.TheVariants as rel
use Rattle.arti_query_model.specs.declared.fields.FieldType.{FieldType}
use Rattle.arti_query_model.specs.declared.fields.FieldType.TheVariants.{Lists}
use Rattle.arti_query_model.specs.declared.fields.FieldId.{FieldId}
use Rattle.arti_query_model.specs.declared.tests.Shown.{Shown}
use Rattle.arti_query_model.specs.declared.fault.TypeFault.{TypeFault}
use Rattle.arti_query_model.specs.declared.fault.TypeFault.TheVariants.{NoDomain, TooManyCases, SortNotShown}
use Rattle.arti_query_model.specs.Outcome.{◌>>=◌, or_fault, each}
use Rattle.arti_query_model.specs.Table.{Entry, fields, field_of, named_entry}
use Rattle.arti_query_model.specs.Paths.{shown_of}
use Rattle.arti_query_model.specs.World.{Criterion}
use Rattle.arti_query_model.specs.Cases.{cases, is_joined}
use Rattle.arti_query_model.specs.Typing.{Begin, typed_criteria}

-- ---- what is sorted by

-- the fields that are shown where none is named: the first ten of an item, all of a build
abbrev pub shown_at_first : Rel → List Entry
shown_at_first rel.Item = take 10 (fields rel.Item)
shown_at_first root = fields root

-- the text is among these
abbrev pub is_among : List (List ℕ) → List ℕ → Bool
is_among texts text = list_any (bytes_eq text) texts

abbrev pub is_root_field : Rel → List ℕ → Bool
is_root_field root text = is_some (field_of root text)

-- whether the name of a root field stands in an include
abbrev pub names_root_field : Rel → List (List ℕ) → Bool
names_root_field root includes = list_any (is_root_field root) includes

abbrev pub is_shown_at_first : Rel → List ℕ → Bool
is_shown_at_first root name = is_some (named_entry name (shown_at_first root))

-- whether a root field of this name is shown: `*` shows all, else those are that are named, or those of the default where none is
unfoldable pub is_shown : Rel → List (List ℕ) → List ℕ → Bool
is_shown root includes name =
    is_among includes (codes "*") || (if names_root_field root includes then is_among includes name else is_shown_at_first root name)

-- a list has no order
abbrev pub is_ordered : FieldType → Bool
is_ordered Lists = false
is_ordered type = true

-- a field that rows are sorted by, and whether it descends
unfoldable pub sort_field : Rel → List (List ℕ) → Bool → List ℕ → Result (FieldId × Bool) TypeFault
sort_field root includes descending name = do
  entry ← or_fault (SortNotShown name) (field_of root name)
  if is_shown root includes name && is_ordered entry.type then Ok (entry.field, descending) else Err (SortNotShown name)

unfoldable pub sort_of : Rel → List (List ℕ) → Option Sort → Result (List (FieldId × Bool)) TypeFault
sort_of root includes None = Ok []
sort_of root includes (Some s) = each (sort_field root includes s.descending) s.fields

-- ---- a query

pub record PlainTyped : Type 0 where
  pub root : Rel
  pub cond : Criterion
  pub shown : List Shown
  pub sort : List (FieldId × Bool)
  pub offset : ℕ
  pub limit : Option ℕ

-- the domain of the rows that are found
unfoldable pub root_of : List ℕ → Result Rel TypeFault
root_of domain =
    if bytes_eq domain (codes "items") then Ok rel.Item
    else if bytes_eq domain (codes "builds") then Ok rel.Build
    else Err (NoDomain domain)

-- the most ands of criteria over related rows
abbrev pub most_cases : ℕ
most_cases = 4096

abbrev pub has_too_many_cases : Criterion → Bool
has_too_many_cases cond = is_joined cond && nat_lt most_cases (cases cond)

abbrev pub includes_of : PlainQuery → List (List ℕ)
includes_of q = unwrap_or q.suffixes.include []

-- what a query means at a moment, or its first fault
unfoldable pub typed_query : PlainQuery → ℤ → Result PlainTyped TypeFault
typed_query q now = do
  root ← root_of q.domain
  cond ← typed_criteria (record { root = root; now = now }) q.find
  shown ← each (shown_of root) (includes_of q)
  sort ← sort_of root (includes_of q) q.suffixes.sort
  if has_too_many_cases cond then Err TooManyCases else Ok (record {
    root = root;
    cond = cond;
    shown = shown;
    sort = sort;
    offset = unwrap_or q.suffixes.offset 0;
    limit = q.suffixes.limit;
  })
