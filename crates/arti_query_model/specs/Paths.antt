-- Paths: the names of relations, then a field, or `@` and the key of a property, with dots between them.
use Rattle.std.specs.Prelude.{ℕ, ◌-◌, Bool, true, false, ◌&&◌, ◌==◌, nat_lt, if◌then◌else◌, List, [], ◌∷◌, ◌++◌, length, take, drop, slice_index, codes, Option, Some, None, option_map, option_and_then, Result, Ok, Err}
use Rattle.std.specs.Str.{bytes_eq}
use Rattle.arti_rows.specs.PropTexts.{is_prop_key}
use Rattle.arti_query_model.specs.declared.fields.Rel.{Rel}
use Rattle.arti_query_model.specs.declared.fields.Rel.TheVariants.{Property}
use Rattle.arti_query_model.specs.declared.fields.FieldType.{FieldType}
use Rattle.arti_query_model.specs.declared.fields.FieldId.{FieldId}
use Rattle.arti_query_model.specs.declared.fields.FieldId.TheVariants as field
use Rattle.arti_query_model.specs.declared.tests.PropKey.{PropKey}
use Rattle.arti_query_model.specs.declared.tests.PropKey.TheVariants.{Key, AnyValue, AnyKey}
use Rattle.arti_query_model.specs.declared.tests.Shown.{Shown}
use Rattle.arti_query_model.specs.declared.tests.ShownPart.{ShownPart}
use Rattle.arti_query_model.specs.declared.tests.ShownPart.TheVariants as shown
use Rattle.arti_query_model.specs.declared.fault.TypeFault.{TypeFault}
use Rattle.arti_query_model.specs.declared.fault.TypeFault.TheVariants.{NoField, PathTooLong}
use Rattle.arti_query_model.specs.Outcome.{◌>>=◌, or_fault}
use Rattle.arti_query_model.specs.Table.{Entry, field_of, relation_of, has_properties}

-- the names before the last part, and the last part
pub record PathText : Type 0 where
  pub names : List (List ℕ)
  pub last : List ℕ

-- a byte put before the first part
abbrev pub before_names : ℕ → List (List ℕ) → List ℕ → PathText
before_names b [] last = record { names = []; last = b ∷ last }
before_names b (name ∷ names) last = record { names = (b ∷ name) ∷ names; last = last }

-- The parts end at dots, but one that begins with `@` goes to the end. A part begins at the front or goes on there.
abbrev pub cut : (begins : Bool) → List ℕ → PathText
cut begins [] = record { names = []; last = [] }
cut begins (b ∷ bs) =
    if begins && (b == 64) then record { names = []; last = b ∷ bs }
    else if b == 46 then record { names = [] ∷ (cut true bs).names; last = (cut true bs).last }
    else before_names b (cut false bs).names (cut false bs).last

abbrev pub path_text : List ℕ → PathText
path_text path = cut true path

-- the most relations of a path
abbrev pub most_relations : ℕ
most_relations = 6

-- the relations of these names, one after the other from a domain
abbrev pub relations_named : Rel → List (List ℕ) → Option (List Rel)
relations_named domain [] = Some []
relations_named domain (name ∷ names) =
    option_and_then (λ rel. option_map (λ rels. rel ∷ rels) (relations_named rel names)) (relation_of domain name)

-- the domain that relations lead to
abbrev pub end_of : Rel → List Rel → Rel
end_of domain [] = domain
end_of domain (rel ∷ rels) = end_of rel rels

-- the relations before the last part of a path
unfoldable pub relations_of : Rel → List ℕ → Result (List Rel) TypeFault
relations_of root path =
    if nat_lt most_relations (length (path_text path).names) then Err (PathTooLong path)
    else or_fault (NoField path) (relations_named root (path_text path).names)

-- whether a last part names a property
abbrev pub is_property_text : List ℕ → Bool
is_property_text last = slice_index last 0 == 64

-- `@*`
abbrev pub every_property : List ℕ
every_property = codes "@*"

-- ---- what is tested

-- a field of the rows at a path, or properties of theirs
pub data What : Type 0 where
  in_field : FieldId → FieldType → What
  in_properties : PropKey → What

-- what a path of criteria leads to; a closing `property` isn't among the relations
pub record Target : Type 0 where
  pub path : List Rel
  pub what : What

-- the properties that the last part of a path names
unfoldable pub property_key : List ℕ → Option PropKey
property_key last =
    if bytes_eq last every_property then Some AnyValue
    else if is_prop_key (drop 1 last) then Some (Key (drop 1 last))
    else None

abbrev pub at_key : List Rel → PropKey → Target
at_key path key = record { path = path; what = in_properties key }

-- a field at the end of a path; one of a property tests the properties of the row before
abbrev pub at_field : List Rel → FieldType → FieldId → Target
at_field path type field.PropertyKey = at_key (take (length path - 1) path) AnyKey
at_field path type field.PropertyValue = at_key (take (length path - 1) path) AnyValue
at_field path type other = record { path = path; what = in_field other type }

unfoldable pub target_at : Rel → List Rel → List ℕ → Option Target
target_at domain path last =
    if is_property_text last then (if has_properties domain then option_map (at_key path) (property_key last) else None)
    else option_map (λ entry. at_field path entry.type entry.field) (field_of domain last)

-- what a path leads to
unfoldable pub target : Rel → List ℕ → Result Target TypeFault
target root path = do
  rels ← relations_of root path
  or_fault (NoField path) (target_at (end_of root rels) rels (path_text path).last)

-- ---- what is shown

-- the properties that the last part of a path shows
unfoldable pub shown_properties : List ℕ → Option ShownPart
shown_properties last =
    if bytes_eq last every_property then Some shown.EveryKey
    else if is_prop_key (drop 1 last) then Some (shown.Key (drop 1 last))
    else None

abbrev pub shown_at : List Rel → ShownPart → Shown
shown_at path part = record { path = path; part = part }

-- all fields at the end of one more relation, if the path may have one more
unfoldable pub shown_below : List ℕ → List Rel → Rel → Result Shown TypeFault
shown_below text path rel = if nat_lt (length path) most_relations then Ok (shown_at (path ++ rel ∷ []) shown.All) else Err (PathTooLong text)

-- a field, or all fields of a relation
unfoldable pub shown_name : List ℕ → Rel → List Rel → List ℕ → Result Shown TypeFault
shown_name text domain path last = by_field (field_of domain last)
  where
    by_relation : Option Rel → Result Shown TypeFault
    by_relation (Some rel) = shown_below text path rel
    by_relation None = Err (NoField text)

    by_field : Option Entry → Result Shown TypeFault
    by_field (Some entry) = Ok (shown_at path (shown.Field entry.field))
    by_field None = by_relation (relation_of domain last)

unfoldable pub shown_last : List ℕ → Rel → List Rel → List ℕ → Result Shown TypeFault
shown_last text domain path last =
    if is_property_text last
    then (if has_properties domain then or_fault (NoField text) (option_map (shown_at path) (shown_properties last)) else Err (NoField text))
    else if bytes_eq last (codes "*") then Ok (shown_at path shown.All)
    else shown_name text domain path last

-- what a text of an include shows
unfoldable pub shown_of : Rel → List ℕ → Result Shown TypeFault
shown_of root text = do
  rels ← relations_of root text
  shown_last text (end_of root rels) rels (path_text text).last
