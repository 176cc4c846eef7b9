-- Criteria typed: what each test means, or the first fault from the left.
use Rattle.std.specs.Prelude.{ℕ, Bool, true, false, nat_eq, if◌then◌else◌, List, [], ◌∷◌, ◌++◌, codes, ℤ, Option, Some, None, Result, Ok, Err}
use Rattle.std.specs.Option.{unwrap_or}
use Rattle.std.specs.Cmp.Lexicographic.{pointwise}
use Rattle.arti_aql_parse.specs.Tree.{PlainMember, tests, group, Members, no_members, member, Objects, no_objects, object}
use Rattle.arti_aql_parse.specs.declared.query.Test.{Test}
use Rattle.arti_aql_parse.specs.declared.query.Lit.{Lit}
use Rattle.arti_aql_parse.specs.declared.query.Lit.TheVariants as lit
use Rattle.arti_aql_parse.specs.declared.words.Group.TheVariants.{All, Any, Same}
use Rattle.arti_query_model.specs.declared.fields.Rel.{Rel}
use Rattle.arti_query_model.specs.declared.fields.Rel.TheVariants as rel
use Rattle.arti_query_model.specs.declared.fields.FieldType.{FieldType}
use Rattle.arti_query_model.specs.declared.fields.FieldType.TheVariants.{Texts}
use Rattle.arti_query_model.specs.declared.tests.PropKey.{PropKey}
use Rattle.arti_query_model.specs.declared.tests.PropTest.{PropTest}
use Rattle.arti_query_model.specs.declared.tests.TypedTest.{TypedTest}
use Rattle.arti_query_model.specs.declared.fault.TypeFault.{TypeFault}
use Rattle.arti_query_model.specs.declared.fault.TypeFault.TheVariants.{WrongOperator, BadValue}
use Rattle.arti_query_model.specs.Outcome.{◌>>=◌, or_fault, each}
use Rattle.arti_query_model.specs.Table.{takes}
use Rattle.arti_query_model.specs.Paths.{What, in_field, in_properties, Target, target}
use Rattle.arti_query_model.specs.Values.{value_test}
use Rattle.arti_query_model.specs.Criteria.{every, some, leaf, Conds, nothing, part}
use Rattle.arti_query_model.specs.World.{RowTest, field, pair, same, Criterion}

-- where a query begins: the domain of its rows, and the moment of the request
pub record Begin : Type 0 where
  pub root : Rel
  pub now : ℤ

-- ---- tests

-- the test of a field of this type at this path; the operator goes before the value
unfoldable pub typed_test : ℤ → List ℕ → FieldType → Test → Result TypedTest TypeFault
typed_test now path type t =
    if takes type t.op then or_fault (BadValue path) (value_test now type t.op t.value) else Err (WrongOperator path)

abbrev pub prop_test : PropKey → TypedTest → PropTest
prop_test key test = record { key = key; test = test }

-- a test at the end of a path
unfoldable pub leaf_of : ℤ → List ℕ → List Rel → What → Test → Result Criterion TypeFault
leaf_of now path rels (in_field f type) t = do
  typed ← typed_test now path type t
  Ok (leaf rels (field f typed))
leaf_of now path rels (in_properties key) t = do
  typed ← typed_test now path Texts t
  Ok (leaf rels (pair (prop_test key typed)))

abbrev pub conds_of : List Criterion → Conds Rel RowTest
conds_of [] = nothing
conds_of (c ∷ cs) = part c (conds_of cs)

-- the tests of one field
unfoldable pub typed_tests : Begin → List ℕ → List Test → Result Criterion TypeFault
typed_tests b path ts = do
  goal ← target b.root path
  leaves ← each (leaf_of b.now path goal.path goal.what) ts
  Ok (every (conds_of leaves))

-- ---- tests of one and the same property

abbrev pub msp : List ℕ
msp = codes "$msp"

-- the members of objects, one after the other
abbrev pub members_with : Members → List PlainMember → List PlainMember
members_with no_members rest = rest
members_with (member m ms) rest = m ∷ members_with ms rest

abbrev pub members_in : Objects → List PlainMember
members_in no_objects = []
members_in (object ms os) = members_with ms (members_in os)

abbrev pub rel_number : Rel → ℕ
rel_number rel.Property = 0
rel_number rel.Stat = 1
rel_number rel.Artifact = 2
rel_number rel.Dependency = 3
rel_number rel.Item = 4
rel_number rel.Module = 5
rel_number rel.Build = 6
rel_number rel.Promotion = 7

abbrev pub same_rel : Rel → Rel → Bool
same_rel a b = nat_eq (rel_number a) (rel_number b)

-- the path is the one before, if there is one before
abbrev pub goes_with : Option (List Rel) → List Rel → Bool
goes_with None path = true
goes_with (Some before) path = pointwise same_rel before path

-- the properties that a member tests, if it tests any, at the path of those before it
unfoldable pub same_key : Option (List Rel) → List Rel → What → Result PropKey TypeFault
same_key before path (in_field f type) = Err (WrongOperator msp)
same_key before path (in_properties key) = if goes_with before path then Ok key else Err (WrongOperator msp)

-- a value other than `null`
abbrev pub is_null : Lit → Bool
is_null lit.Null = true
is_null other = false

unfoldable pub same_test : ℤ → List ℕ → PropKey → Test → Result PropTest TypeFault
same_test now path key t = do
  typed ← typed_test now path Texts t
  if is_null t.value then Err (BadValue path) else Ok (prop_test key typed)

-- the path of tests and the tests
pub record SameTests : Type 0 where
  pub path : Option (List Rel)
  pub tests : List PropTest

-- the tests of one member, behind others at a path
unfoldable pub same_member : Begin → Option (List Rel) → PlainMember → Result SameTests TypeFault
same_member b before (group g os) = Err (WrongOperator msp)
same_member b before (tests path ts) = do
  goal ← target b.root path
  key ← same_key before goal.path goal.what
  typed ← each (same_test b.now path key) ts
  Ok (record { path = Some goal.path; tests = typed })

-- the tests of these members
unfoldable pub same_tests : Begin → Option (List Rel) → List PlainMember → Result SameTests TypeFault
same_tests b before [] = Ok (record { path = before; tests = [] })
same_tests b before (m ∷ ms) = do
  first ← same_member b before m
  rest ← same_tests b first.path ms
  Ok (record { path = rest.path; tests = first.tests ++ rest.tests })

-- without a test they are at the root
unfoldable pub same_of : Begin → Objects → Result Criterion TypeFault
same_of b os = do
  found ← same_tests b None (members_in os)
  Ok (leaf (unwrap_or found.path []) (same found.tests))

-- ---- criteria

abbrev mutual
  pub typed_member : Begin → PlainMember → Result Criterion TypeFault
  typed_member b (tests path ts) = typed_tests b path ts
  typed_member b (group All os) = do
    parts ← typed_objects b os
    Ok (every parts)
  typed_member b (group Any os) = do
    parts ← typed_objects b os
    Ok (some parts)
  typed_member b (group Same os) = same_of b os

  pub typed_members : Begin → Members → Result (Conds Rel RowTest) TypeFault
  typed_members b no_members = Ok nothing
  typed_members b (member m ms) = do
    first ← typed_member b m
    rest ← typed_members b ms
    Ok (part first rest)

  pub typed_objects : Begin → Objects → Result (Conds Rel RowTest) TypeFault
  typed_objects b no_objects = Ok nothing
  typed_objects b (object ms os) = do
    first ← typed_members b ms
    rest ← typed_objects b os
    Ok (part (every first) rest)

-- the criteria of a query: each object holds
unfoldable pub typed_criteria : Begin → Objects → Result Criterion TypeFault
typed_criteria b find = do
  parts ← typed_objects b find
  Ok (every parts)
