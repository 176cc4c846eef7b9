-- Worked rows: queries typed, and asked of an item `x` with the properties `q=1` and `q=2`, which was made in 1970 and never downloaded.
use Rattle.std.proofs.Common.{◌≡◌, ℕ, zero, suc, Bool, true, false, List, [], ◌∷◌, ◌++◌, Option, Some, None, refl}
use Rattle.std.specs.Prelude.{codes, map, ℤ, pos, Result, Ok, Err}
use Rattle.std.specs.Str.{chars}
use Rattle.jiff_core.specs.Calendar.{day_count, days_from_civil, days_of_months, days_of_years}
use Rattle.arti_rows.specs.declared.rows.Property.{Property}
use Rattle.arti_time.specs.Front.{after, two_digits, four_digits}
use Rattle.arti_time.specs.DateReader.{midnight, date_front, fraction_front, at_time, time_front, skip_colon, whole_offset, offset_minutes, only_zulu, zone_east, clock_and_zone, time_and_zone, date_of}
use Rattle.arti_time.specs.Spans.{span_of}
use Rattle.arti_wild.specs.Fits.{fits, any_rest}
use Rattle.arti_aql_parse.specs.Words.{number_of}
use Rattle.arti_aql_parse.specs.Tree.{PlainMember, tests, group, Members, no_members, member, Objects, no_objects, object, PlainQuery}
use Rattle.arti_aql_parse.specs.declared.query.Op.{Op}
use Rattle.arti_aql_parse.specs.declared.query.Op.TheVariants.{Eq, Ne, Gt, Gte, Lt, Lte, Match, Nmatch, Before, Last}
use Rattle.arti_aql_parse.specs.declared.query.Lit.{Lit}
use Rattle.arti_aql_parse.specs.declared.query.Lit.TheVariants.{Words, Number, Null}
use Rattle.arti_aql_parse.specs.declared.query.Test.{Test}
use Rattle.arti_aql_parse.specs.declared.query.Sort.{Sort}
use Rattle.arti_aql_parse.specs.declared.words.Group.TheVariants.{All, Any, Same}
use Rattle.arti_query_model.specs.declared.fields.Rel.{Rel}
use Rattle.arti_query_model.specs.declared.fields.Rel.TheVariants as rel
use Rattle.arti_query_model.specs.declared.fields.FieldId.{FieldId}
use Rattle.arti_query_model.specs.declared.fields.FieldId.TheVariants as field
use Rattle.arti_query_model.specs.declared.tests.ItemKind.TheVariants.{File}
use Rattle.arti_query_model.specs.declared.fault.TypeFault.{TypeFault}
use Rattle.arti_query_model.specs.declared.fault.TypeFault.TheVariants.{NoDomain, NoField, WrongOperator, BadValue, PathTooLong, TooManyCases, SortNotShown}
use Rattle.arti_query_model.specs.Values as value
use Rattle.arti_query_model.specs.Table.{takes, fields, field_of, relations, relation_of, relation_name}
use Rattle.arti_query_model.specs.Paths.{relations_of, property_key, target_at, target, shown_properties, shown_below, shown_name, shown_last, shown_of}
use Rattle.arti_query_model.specs.Values.{number_in, kind_of, date_test, value_test, value_meets}
use Rattle.arti_query_model.specs.World.{World, pair_holds, same_holds, holds_for_row, Criterion}
use Rattle.arti_query_model.specs.Typing.{Begin, typed_test, leaf_of, typed_tests, same_key, same_test, same_member, same_tests, same_of, typed_criteria}
use Rattle.arti_query_model.specs.Typed.{PlainTyped, is_shown, sort_field, sort_of, root_of, typed_query}

-- ---- the item

abbrev values : FieldId → value.Value
values field.ItemName = value.Words (codes "x")
values field.ItemType = value.Kind File
values field.ItemCreated = value.Date (pos 1000)
values field.ItemSize = value.Number (pos 10)
values other = value.Absent

abbrev pair_of : List ℕ → List ℕ → Property
pair_of key value = record { key = key; value = value }

abbrev world : World ℕ
world = record {
  value = λ row f. values f;
  properties = λ row. pair_of (codes "q") (codes "1") ∷ pair_of (codes "q") (codes "2") ∷ [];
  related = λ row r. [];
}

-- ---- queries

abbrev asks : List ℕ → Op → Lit → PlainMember
asks path op value = tests path (record { op = op; value = value } ∷ [])

abbrev object_of : PlainMember → Objects → Objects
object_of m os = object (member m no_members) os

abbrev one : PlainMember → Objects
one m = object_of m no_objects

abbrev two : PlainMember → PlainMember → Objects
two m n = object_of m (one n)

-- at the moment 10000
abbrev begin : Begin
begin = record { root = rel.Item; now = pos 10000 }

abbrev told : Result Criterion TypeFault → Bool
told (Ok c) = holds_for_row world c 0
told (Err f) = false

-- whether the criteria hold for the item
abbrev says : Objects → Bool
says find = told (typed_criteria begin find)

abbrev query_of : List ℕ → Objects → Option (List (List ℕ)) → Option Sort → PlainQuery
query_of domain find include sort = record {
  domain = domain;
  find = find;
  suffixes = record { include = include; sort = sort; offset = None; limit = None; distinct = None };
}

abbrev fault : Result PlainTyped TypeFault → Option TypeFault
fault (Ok t) = None
fault (Err f) = Some f

-- the fault of a query for items with these criteria
abbrev refused : Objects → Option TypeFault
refused find = fault (typed_query (query_of (codes "items") find None None) (pos 10000))

-- ---- tests of properties: one property may meet a test, a denial must hold of all, and `$msp` asks of one and the same
abbrev of_properties : List (Objects × Bool)
of_properties =
    ((one (asks (codes "@q") Ne (Words (codes "1")))), false)
    ∷ ((one (group Same (two (asks (codes "@q") Gt (Words (codes "0"))) (asks (codes "@q") Lt (Words (codes "2")))))), true)
    ∷ ((one (group Same (two (asks (codes "@q") Eq (Words (codes "1"))) (asks (codes "@q") Eq (Words (codes "2")))))), false)
    ∷ ((one (group All (two (asks (codes "@q") Eq (Words (codes "1"))) (asks (codes "@q") Eq (Words (codes "2")))))), true)
    ∷ ((one (group Any (two (asks (codes "@q") Eq (Words (codes "3"))) (asks (codes "@q") Eq (Words (codes "2")))))), true)
    ∷ ((one (asks (codes "@license") Ne (Words (codes "GPL")))), true)
    ∷ ((one (asks (codes "@license") Eq Null)), true)
    ∷ ((one (asks (codes "@q") Eq Null)), false)
    ∷ ((one (asks (codes "@*") Gt (Words (codes "1")))), true)
    ∷ []

of_properties_hold : map (λ r. says r.0) of_properties ≡ map (λ r. r.1) of_properties
unfolding typed_criteria typed_tests leaf_of typed_test target relations_of target_at property_key takes value_test pair_holds value_meets same_of
    same_tests same_member same_key same_test same_holds
of_properties_hold = refl

-- ---- fields: what a value that is absent meets, numbers written as texts, and kinds
abbrev of_fields : List (Objects × Bool)
of_fields =
    ((one (asks (codes "sha256") Nmatch (Words (codes "a*")))), true)
    ∷ ((one (asks (codes "sha256") Match (Words (codes "*")))), false)
    ∷ ((one (asks (codes "actual_md5") Eq Null)), true)
    ∷ ((one (asks (codes "depth") Ne (Number (pos 3)))), true)
    ∷ ((one (asks (codes "depth") Gt (Number (pos 3)))), false)
    ∷ ((one (asks (codes "name") Ne Null)), true)
    ∷ ((one (asks (codes "size") Gte (Words (codes "9")))), true)
    ∷ ((one (asks (codes "size") Lt (Words (codes "9")))), false)
    ∷ ((one (asks (codes "type") Ne (Words (codes "any")))), false)
    ∷ ((one (asks (codes "type") Eq (Words (codes "file")))), true)
    ∷ []

of_fields_hold : map (λ r. says r.0) of_fields ≡ map (λ r. r.1) of_fields
unfolding typed_criteria typed_tests leaf_of typed_test target relations_of target_at property_key takes value_test pair_holds value_meets field_of
    fields relation_of relations relation_name number_in kind_of number_of
of_fields_hold = refl

-- ---- moments: nine seconds lie between the item and the request
abbrev of_spans : List (Objects × Bool)
of_spans =
    ((one (asks (codes "created") Before (Words (codes "8s")))), true)
    ∷ ((one (asks (codes "created") Last (Words (codes "9s")))), true)
    ∷ ((one (asks (codes "created") Before (Words (codes "9s")))), false)
    ∷ ((one (asks (codes "created") Last (Words (codes "8s")))), false)
    ∷ []

of_spans_hold : map (λ r. says r.0) of_spans ≡ map (λ r. r.1) of_spans
unfolding typed_criteria typed_tests leaf_of typed_test target relations_of target_at property_key takes value_test pair_holds value_meets field_of
    fields relation_of relations relation_name date_test span_of
of_spans_hold = refl

-- A date is compared as a moment. As texts, these two stand the other way round.
abbrev of_dates : List (Objects × Bool)
of_dates =
    ((one (asks (codes "created") Gt (Words (codes "1970-01-01T02:00:00+02:00")))), true)
    ∷ ((one (asks (codes "created") Lt (Words (codes "1970-01-01")))), false)
    ∷ []

of_dates_hold : map (λ r. says r.0) of_dates ≡ map (λ r. r.1) of_dates
unfolding typed_criteria typed_tests leaf_of typed_test target relations_of target_at property_key takes value_test pair_holds value_meets field_of
    fields relation_of relations relation_name date_test at_time clock_and_zone date_front date_of fraction_front midnight offset_minutes only_zulu
    skip_colon time_and_zone time_front whole_offset zone_east after four_digits two_digits day_count days_from_civil days_of_months days_of_years
of_dates_hold = refl

-- ---- patterns
abbrev of_patterns : List (Objects × Bool)
of_patterns =
    ((one (asks (codes "property.key") Match (Words (codes "?")))), true)
    ∷ ((one (asks (codes "name") Nmatch (Words (codes "x*")))), false)
    ∷ []

of_patterns_hold : map (λ r. says r.0) of_patterns ≡ map (λ r. r.1) of_patterns
unfolding typed_criteria typed_tests leaf_of typed_test target relations_of target_at property_key takes value_test pair_holds value_meets field_of
    fields relation_of relations relation_name fits any_rest chars
of_patterns_hold = refl

-- ---- the first fault; a closing `property` counts among the relations of a path, the key of a property does not
abbrev refusals : List (Objects × Option TypeFault)
refusals =
    ((one (asks (codes "nme") Eq (Words (codes "x")))), Some (NoField (codes "nme")))
    ∷ ((one (asks (codes "@a b") Eq (Words (codes "x")))), Some (NoField (codes "@a b")))
    ∷ ((one (asks (codes "stat.@a") Eq (Words (codes "x")))), Some (NoField (codes "stat.@a")))
    ∷ ((one (asks (codes "size") Match (Words (codes "1")))), Some (WrongOperator (codes "size")))
    ∷ ((one (asks (codes "virtual_repos") Eq Null)), Some (WrongOperator (codes "virtual_repos")))
    ∷ ((one (group Same (two (asks (codes "@q") Eq (Words (codes "1"))) (asks (codes "artifact.name") Eq (Words (codes "2")))))), Some (WrongOperator (codes "$msp")))
    ∷ ((one (group Same (one (asks (codes "@q") Eq Null)))), Some (BadValue (codes "@q")))
    ∷ ((one (asks (codes "size") Eq (Words (codes "01")))), Some (BadValue (codes "size")))
    ∷ ((one (asks (codes "size") Lt Null)), Some (BadValue (codes "size")))
    ∷ ((one (asks (codes "artifact.module.build.module.artifact.item.property.key") Eq (Words (codes "1")))), Some (PathTooLong (codes "artifact.module.build.module.artifact.item.property.key")))
    ∷ ((one (asks (codes "artifact.module.build.module.artifact.item.@k") Eq (Words (codes "1")))), None)
    ∷ []

refusals_hold : map (λ r. refused r.0) refusals ≡ map (λ r. r.1) refusals
unfolding typed_query root_of sort_of typed_criteria typed_tests leaf_of typed_test target relations_of target_at property_key takes value_test
    pair_holds value_meets same_of same_tests same_member same_key same_test same_holds field_of fields relation_of relations relation_name
    number_in kind_of number_of
refusals_hold = refl

-- ---- a domain, and what is sorted by

no_domain : fault (typed_query (query_of (codes "archive.entries") no_objects None None) (pos 0)) ≡ Some (NoDomain (codes "archive.entries"))
unfolding typed_query root_of
no_domain = refl

abbrev sorted_by : List ℕ → List (List ℕ) → Option TypeFault
sorted_by name shown =
    fault (typed_query (query_of (codes "items") no_objects (Some shown) (Some (record { descending = false; fields = name ∷ [] }))) (pos 0))

sorted_by_what_is_not_shown : sorted_by (codes "size") (codes "name" ∷ []) ≡ Some (SortNotShown (codes "size"))
unfolding typed_criteria relations_of typed_query root_of sort_of sort_field is_shown shown_of shown_last shown_name shown_below shown_properties
    field_of fields relation_of relations relation_name
sorted_by_what_is_not_shown = refl

sorted_by_what_is_shown_at_first : sorted_by (codes "size") (codes "@a" ∷ []) ≡ None
unfolding typed_criteria relations_of typed_query root_of sort_of sort_field is_shown shown_of shown_last shown_name shown_below shown_properties
    field_of fields relation_of relations relation_name
sorted_by_what_is_shown_at_first = refl

-- ---- the number of cases

-- n times two cases
abbrev twice : ℕ → List ℕ → Objects
twice zero path = no_objects
twice (suc n) path = object_of (group Any (two (asks path Eq (Words (codes "a"))) (asks path Eq (Words (codes "b"))))) (twice n path)

twelve_twos_are_few : refused (twice 12 (codes "artifact.name")) ≡ None
unfolding typed_query root_of sort_of typed_criteria typed_tests leaf_of typed_test target relations_of target_at property_key takes value_test
    pair_holds value_meets field_of fields relation_of relations relation_name
twelve_twos_are_few = refl

thirteen_twos_are_many : refused (twice 13 (codes "artifact.name")) ≡ Some TooManyCases
unfolding typed_query root_of sort_of typed_criteria typed_tests leaf_of typed_test target relations_of target_at property_key takes value_test
    pair_holds value_meets field_of fields relation_of relations relation_name
thirteen_twos_are_many = refl

without_a_choice_all_are_few : refused (twice 13 (codes "stat.downloaded_by")) ≡ None
unfolding typed_query root_of sort_of typed_criteria typed_tests leaf_of typed_test target relations_of target_at property_key takes value_test
    pair_holds value_meets field_of fields relation_of relations relation_name
without_a_choice_all_are_few = refl
