-- The printed form of a query: no spaces, the shortest escapes, a literal alone for a single test of equality, and the suffixes
-- in one order. The number is how many braces and brackets may still be opened: what is nested deeper than in any text is left out.
use Rattle.std.specs.Prelude.{ℕ, zero, suc, List, [], ◌∷◌, ◌++◌, Bool, true, false, if◌then◌else◌, ◌==◌, nat_lt, length, map, codes, decimal, Option, Some, None}
use Rattle.std.specs.Fmt.{signed_decimal}
use Rattle.json.specs.Print.{quoted}
use Rattle.arti_aql_parse.specs.Grammar.{most_levels}
use Rattle.arti_aql_parse.specs.Separated.{separated}
use Rattle.arti_aql_parse.specs.Tree.{PlainMember, tests, group, Members, no_members, member, Objects, no_objects, object, PlainQuery}
use Rattle.arti_aql_parse.specs.declared.query.Lit.{Lit}
use Rattle.arti_aql_parse.specs.declared.query.Lit.TheVariants as lit
use Rattle.arti_aql_parse.specs.declared.query.Op.{Op}
use Rattle.arti_aql_parse.specs.declared.query.Op.TheVariants.{Eq, Ne, Gt, Gte, Lt, Lte, Match, Nmatch, Before, Last}
use Rattle.arti_aql_parse.specs.declared.query.Sort.{Sort}
use Rattle.arti_aql_parse.specs.declared.query.Suffixes.{Suffixes}
use Rattle.arti_aql_parse.specs.declared.query.Test.{Test}
use Rattle.arti_aql_parse.specs.declared.words.Group.{Group}
use Rattle.arti_aql_parse.specs.declared.words.Group.TheVariants.{All, Any, Same}

unfoldable pub group_name : Group → List ℕ
group_name All = codes "$and"
group_name Any = codes "$or"
group_name Same = codes "$msp"

unfoldable pub op_name : Op → List ℕ
op_name Eq = codes "$eq"
op_name Ne = codes "$ne"
op_name Gt = codes "$gt"
op_name Gte = codes "$gte"
op_name Lt = codes "$lt"
op_name Lte = codes "$lte"
op_name Match = codes "$match"
op_name Nmatch = codes "$nmatch"
op_name Before = codes "$before"
op_name Last = codes "$last"

abbrev pub is_equality : Op → Bool
is_equality Eq = true
is_equality _ = false

unfoldable pub literal_text : Lit → List ℕ
literal_text (lit.Words text) = quoted text
literal_text (lit.Number n) = signed_decimal n
literal_text lit.Null = codes "null"

-- parts with commas between them
abbrev pub row : List (List ℕ) → List ℕ
row = separated 44

-- the comma before a part that so many parts precede
abbrev pub comma_before : ℕ → List ℕ
comma_before i = if nat_lt 0 i then 44 ∷ [] else []

unfoldable pub test_text : Test → List ℕ
test_text test = quoted (op_name test.op) ++ 58 ∷ literal_text test.value

unfoldable pub tests_text : List Test → List ℕ
tests_text ts = 123 ∷ (row (map test_text ts) ++ 125 ∷ [])

-- a single test of equality is its literal
unfoldable pub operand_text : List Test → List ℕ
operand_text (t ∷ []) = if is_equality t.op then literal_text t.value else tests_text (t ∷ [])
operand_text ts = tests_text ts

-- a row between two marks
abbrev pub enclosed : (opening closing : ℕ) → ℕ → (ℕ → List (List ℕ)) → List ℕ
enclosed opening closing zero parts = []
enclosed opening closing (suc n) parts = opening ∷ (row (parts n) ++ closing ∷ [])

abbrev mutual
  pub member_text : PlainMember → ℕ → List ℕ
  member_text (tests key ts) n = quoted key ++ 58 ∷ operand_text ts
  member_text (group join os) n = quoted (group_name join) ++ 58 ∷ enclosed 91 93 n (object_texts os)

  pub member_texts : Members → ℕ → List (List ℕ)
  member_texts no_members n = []
  member_texts (member m ms) n = member_text m n ∷ member_texts ms n

  pub object_texts : Objects → ℕ → List (List ℕ)
  object_texts no_objects n = []
  object_texts (object o os) n = enclosed 123 125 n (member_texts o) ∷ object_texts os n

abbrev pub object_text : Members → ℕ → List ℕ
object_text o n = enclosed 123 125 n (member_texts o)

-- `name.name.find(`
unfoldable pub head_text : List ℕ → List ℕ
head_text domain = if length domain == 0 then codes "find(" else domain ++ codes ".find("

abbrev pub texts_text : List (List ℕ) → List ℕ
texts_text xs = row (map quoted xs)

abbrev pub order_text : Bool → List ℕ
order_text descending = if descending then codes ".sort({\"$desc\":[" else codes ".sort({\"$asc\":["

unfoldable pub include_text : Option (List (List ℕ)) → List ℕ
include_text None = []
include_text (Some xs) = codes ".include(" ++ texts_text xs ++ codes ")"

unfoldable pub sort_text : Option Sort → List ℕ
sort_text None = []
sort_text (Some x) = order_text x.descending ++ texts_text x.fields ++ codes "]})"

unfoldable pub offset_text : Option ℕ → List ℕ
offset_text None = []
offset_text (Some n) = codes ".offset(" ++ decimal n ++ codes ")"

unfoldable pub limit_text : Option ℕ → List ℕ
limit_text None = []
limit_text (Some n) = codes ".limit(" ++ decimal n ++ codes ")"

unfoldable pub distinct_text : Option Bool → List ℕ
distinct_text None = []
distinct_text (Some true) = codes ".distinct(true)"
distinct_text (Some false) = codes ".distinct(false)"

unfoldable pub suffixes_text : Suffixes → List ℕ
suffixes_text s = include_text s.include ++ sort_text s.sort ++ offset_text s.offset ++ limit_text s.limit ++ distinct_text s.distinct

unfoldable pub printed : PlainQuery → List ℕ
printed q = head_text q.domain ++ row (object_texts q.find most_levels) ++ 41 ∷ suffixes_text q.suffixes
