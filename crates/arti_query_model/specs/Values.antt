-- How values are typed and compared.
use Rattle.std.specs.Prelude.{ℕ, ◌+◌, ◌-◌, Bool, true, false, not, ◌&&◌, ◌||◌, ◌==◌, nat_lt, nat_le, if◌then◌else◌, List, [], ◌∷◌, length, drop, slice_index, codes, ℤ, pos, ◌-ℤ◌, Option, Some, None, option_map}
use Rattle.std.specs.List.{list_all}
use Rattle.std.specs.Char.{is_ascii_digit}
use Rattle.std.specs.Str.{bytes_eq}
use Rattle.std.specs.Fmt.{signed_decimal}
use Rattle.std.specs.Int.{int_max}
use Rattle.std.specs.Ordering.{is_eq, is_ne, is_lt, is_le, is_gt, is_ge, nat_cmp, int_cmp}
use Rattle.std.specs.Cmp.Lexicographic.{slice_cmp}
use Rattle.std.specs.declared.cmp.Ordering.{Ordering}
use Rattle.arti_rows.specs.Moments.{least_moment}
use Rattle.arti_time.specs.DateReader.{date_of}
use Rattle.arti_time.specs.Spans.{span_of}
use Rattle.arti_wild.specs.Wild.{wild_text}
use Rattle.arti_aql_parse.specs.Words.{number_of}
use Rattle.arti_aql_parse.specs.declared.query.Op.{Op}
use Rattle.arti_aql_parse.specs.declared.query.Op.TheVariants.{Eq, Ne, Gt, Gte, Lt, Lte, Match, Nmatch, Before, Last}
use Rattle.arti_aql_parse.specs.declared.query.Lit.{Lit}
use Rattle.arti_aql_parse.specs.declared.query.Lit.TheVariants as lit
use Rattle.arti_query_model.specs.declared.fields.FieldType.{FieldType}
use Rattle.arti_query_model.specs.declared.fields.FieldType.TheVariants.{Texts, Numbers, Dates, Kinds, Lists}
use Rattle.arti_query_model.specs.declared.tests.ItemKind.{ItemKind}
use Rattle.arti_query_model.specs.declared.tests.ItemKind.TheVariants.{File, Folder, Any}
use Rattle.arti_query_model.specs.declared.tests.TypedLit.{TypedLit}
use Rattle.arti_query_model.specs.declared.tests.TypedLit.TheVariants as typed
use Rattle.arti_query_model.specs.declared.tests.TypedTest.{TypedTest}

-- ---- what is written in a query

abbrev pub sign_len : List ℕ → ℕ
sign_len text = if slice_index text 0 == 45 then 1 else 0

-- 1 to 18 digits; the first is no zero where more follow
abbrev pub are_digits : List ℕ → Bool
are_digits digits =
    nat_lt 0 (length digits) && nat_le (length digits) 18 && list_all is_ascii_digit digits
    && ((length digits == 1) || not (slice_index digits 0 == 48))

-- perhaps a minus, and such digits
abbrev pub is_number_text : List ℕ → Bool
is_number_text text = are_digits (drop (sign_len text) text)

-- the number of a text
unfoldable pub number_in : List ℕ → Option ℤ
number_in text = if is_number_text text then Some (number_of text) else None

-- the kind of a name
unfoldable pub kind_of : List ℕ → Option ItemKind
kind_of name =
    if bytes_eq name (codes "file") then Some File
    else if bytes_eq name (codes "folder") then Some Folder
    else if bytes_eq name (codes "any") then Some Any
    else None

-- so many milliseconds before a moment, or the least moment
abbrev pub moment_before : ℤ → ℕ → ℤ
moment_before now span = int_max least_moment (now -ℤ pos span)

abbrev pub test_of : Op → TypedLit → TypedTest
test_of op value = record { op = op; value = value }

-- a date, or the moment that lies so long before the request
unfoldable pub date_test : ℤ → Op → List ℕ → Option TypedTest
date_test now Before text = option_map (λ span. test_of Lt (typed.Date (moment_before now span))) (span_of text)
date_test now Last text = option_map (λ span. test_of Gte (typed.Date (moment_before now span))) (span_of text)
date_test now op text = option_map (λ date. test_of op (typed.Date date)) (date_of text)

-- `null` goes with `$eq` and `$ne`
abbrev pub null_test : Op → Option TypedTest
null_test Eq = Some (test_of Eq typed.Null)
null_test Ne = Some (test_of Ne typed.Null)
null_test op = None

-- the test of a field of this type by an operator that it takes, if it has the value
unfoldable pub value_test : ℤ → FieldType → Op → Lit → Option TypedTest
value_test now type op lit.Null = null_test op
value_test now Texts op (lit.Words text) = Some (test_of op (typed.Words text))
value_test now Texts op (lit.Number n) = Some (test_of op (typed.Words (signed_decimal n)))
value_test now Numbers op (lit.Words text) = option_map (λ n. test_of op (typed.Number n)) (number_in text)
value_test now Numbers op (lit.Number n) = Some (test_of op (typed.Number n))
value_test now Dates op (lit.Words text) = date_test now op text
value_test now Kinds op (lit.Words text) = option_map (λ k. test_of op (typed.Kind k)) (kind_of text)
value_test now type op value = None

-- ---- what a row has

-- the value of a field; a row may have none
pub data Value : Type 0 where
  Absent : Value
  Words : List ℕ → Value
  Number : ℤ → Value
  Date : ℤ → Value
  Kind : ItemKind → Value

-- whether a test by a comparison holds
abbrev pub order_holds : Op → Ordering → Bool
order_holds Eq o = is_eq o
order_holds Ne o = is_ne o
order_holds Gt o = is_gt o
order_holds Gte o = is_ge o
order_holds Lt o = is_lt o
order_holds Lte o = is_le o
order_holds op o = false

-- texts are compared in byte order, or with a pattern
abbrev pub words_hold : Op → (words text : List ℕ) → Bool
words_hold Match words text = wild_text text words
words_hold Nmatch words text = not (wild_text text words)
words_hold op words text = order_holds op (slice_cmp nat_cmp words text)

-- any kind is `any`
abbrev pub is_of_kind : ItemKind → ItemKind → Bool
is_of_kind kind Any = true
is_of_kind File File = true
is_of_kind Folder Folder = true
is_of_kind kind other = false

abbrev pub kind_holds : Op → Bool → Bool
kind_holds Eq same = same
kind_holds Ne same = not same
kind_holds op same = false

-- a test with `null`: is there none?
abbrev pub null_holds : Op → Bool → Bool
null_holds Eq none = none
null_holds Ne none = not none
null_holds op none = false

-- the operators that deny something of a value, which hold where there is none
abbrev pub is_denial : Op → Bool
is_denial Ne = true
is_denial Nmatch = true
is_denial op = false

-- whether a value meets a test
unfoldable pub value_meets : Value → Op → TypedLit → Bool
value_meets Absent op typed.Null = null_holds op true
value_meets Absent op value = is_denial op
value_meets value op typed.Null = null_holds op false
value_meets (Words words) op (typed.Words text) = words_hold op words text
value_meets (Number n) op (typed.Number m) = order_holds op (int_cmp n m)
value_meets (Date d) op (typed.Date e) = order_holds op (int_cmp d e)
value_meets (Kind k) op (typed.Kind l) = kind_holds op (is_of_kind k l)
value_meets value op other = false
