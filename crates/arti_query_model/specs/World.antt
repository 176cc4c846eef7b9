-- What tests say of a row.
use Rattle.std.specs.Prelude.{ℕ, Bool, true, false, not, ◌&&◌, nat_lt, if◌then◌else◌, List, [], ◌∷◌, filter, length, Option, Some, None}
use Rattle.std.specs.List.{list_all, list_any}
use Rattle.std.specs.Str.{bytes_eq}
use Rattle.arti_rows.specs.declared.rows.Property.{Property}
use Rattle.arti_aql_parse.specs.declared.query.Op.{Op}
use Rattle.arti_query_model.specs.declared.fields.Rel.{Rel}
use Rattle.arti_query_model.specs.declared.fields.FieldId.{FieldId}
use Rattle.arti_query_model.specs.declared.tests.PropKey.{PropKey}
use Rattle.arti_query_model.specs.declared.tests.PropKey.TheVariants.{Key, AnyValue, AnyKey}
use Rattle.arti_query_model.specs.declared.tests.PropTest.{PropTest}
use Rattle.arti_query_model.specs.declared.tests.TypedLit.{TypedLit}
use Rattle.arti_query_model.specs.declared.tests.TypedLit.TheVariants.{Null}
use Rattle.arti_query_model.specs.declared.tests.TypedTest.{TypedTest}
use Rattle.arti_query_model.specs.Values.{Value, Absent, Words, null_holds, is_denial, value_meets}
use Rattle.arti_query_model.specs.Criteria.{Cond, Holds, holds_alone}

-- the rows that there are: the values of their fields, their properties, and the rows that are related to them
pub record World (Row : Type 0) : Type 0 where
  pub value : Row → FieldId → Value
  pub properties : Row → List Property
  pub related : Row → Rel → List Row

-- a test of the row at a path: of a field, of the properties, or of one and the same property
pub data RowTest : Type 0 where
  field : FieldId → TypedTest → RowTest
  pair : PropTest → RowTest
  same : List PropTest → RowTest

abbrev pub value_at : {Row : Type 0} → World Row → Option Row → FieldId → Value
value_at world None f = Absent
value_at world (Some row) f = world.value row f

abbrev pub properties_at : {Row : Type 0} → World Row → Option Row → List Property
properties_at world None = []
properties_at world (Some row) = world.properties row

-- whether a test asks of a property at all
abbrev pub is_in_question : PropKey → Property → Bool
is_in_question (Key key) p = bytes_eq key p.key
is_in_question AnyValue p = true
is_in_question AnyKey p = true

abbrev pub tested_text : PropKey → Property → List ℕ
tested_text AnyKey p = p.key
tested_text key p = p.value

-- whether one property meets a test
abbrev pub property_meets : PropTest → Property → Bool
property_meets t p = value_meets (Words (tested_text t.key p)) t.test.op t.test.value

abbrev pub in_question : PropKey → List Property → List Property
in_question key properties = filter (is_in_question key) properties

-- what a test says of the properties in question: a denial must hold of all of them, anything else of one
abbrev pub some_meet : PropTest → TypedLit → List Property → Bool
some_meet t Null mine = null_holds t.test.op (not (nat_lt 0 (length mine)))
some_meet t value mine = if is_denial t.test.op then list_all (property_meets t) mine else list_any (property_meets t) mine

unfoldable pub pair_holds : PropTest → List Property → Bool
pair_holds t properties = some_meet t t.test.value (in_question t.key properties)

-- one property is in question in each test, and meets it
unfoldable pub same_holds : List PropTest → List Property → Bool
same_holds tests properties = list_any (λ p. list_all (λ t. is_in_question t.key p && property_meets t p) tests) properties

-- whether the row at a path, or Absent, meets a test
abbrev pub meets : {Row : Type 0} → World Row → RowTest → Option Row → Bool
meets world (field f t) row = value_meets (value_at world row f) t.op t.value
meets world (pair t) row = pair_holds t (properties_at world row)
meets world (same tests) row = same_holds tests (properties_at world row)

-- typed criteria
abbrev pub Criterion : Type 0
Criterion = Cond Rel RowTest

-- whether a criterion holds for a root
abbrev pub HoldsFor : {Row : Type 0} → World Row → Criterion → Row → Type 0
HoldsFor world cond root = Holds world.related (meets world) cond root

-- the same of a criterion on the root's own fields and properties
abbrev pub holds_for_row : {Row : Type 0} → World Row → Criterion → Row → Bool
holds_for_row world cond root = holds_alone (meets world) cond root
