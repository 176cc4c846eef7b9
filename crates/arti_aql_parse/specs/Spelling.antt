-- Which texts spell which queries.
use Rattle.std.specs.Prelude.{◌≡◌, ℕ, ◌<◌, ◌≤◌, List, length, Result, Ok, Err}
use Rattle.arti_aql_lex.specs.Lexed.{lexed}
use Rattle.arti_aql_parse.specs.Grammar.{ReadsQuery}
use Rattle.arti_aql_parse.specs.Refusal.{RefusesQuery}
use Rattle.arti_aql_parse.specs.Tree.{PlainQuery}
use Rattle.arti_aql_parse.specs.View.{view}
use Rattle.arti_aql_parse.specs.declared.fault.ParseFault.{ParseFault}
use Rattle.arti_aql_parse.specs.declared.fault.ParseFault.TheVariants.{Memory, QueryTooLong, Lex, Expected, TooDeep}
use Rattle.arti_aql_parse.specs.declared.fault.ReadFault.{ReadFault}
use Rattle.arti_aql_parse.specs.declared.fault.ReadFault.TheVariants as reading
use Rattle.arti_aql_parse.specs.declared.query.Query.{Query}

-- a query text has at most so many bytes
abbrev pub most_bytes : ℕ
most_bytes = 65536

-- the text spells the query
pub record Spells (text : List ℕ) (q : PlainQuery) : Type 0 where
  pub short : length text ≤ most_bytes
  pub reads : ReadsQuery (lexed 0 0 text) q

-- the text is refused so
pub record Refuses (text : List ℕ) (f : ReadFault) : Type 0 where
  pub short : length text ≤ most_bytes
  pub refuses : RefusesQuery (lexed 0 0 text) f

-- the answer is this query, unless memory ran out
abbrev pub Answers : PlainQuery → Result Query ParseFault → Type 0
Answers q (Ok found) = view found ≡ q
Answers q (Err f) = f ≡ Memory

-- what a fault says of the text
abbrev pub FaultOf : List ℕ → ParseFault → Type 0
FaultOf text Memory = Unit {0}
FaultOf text QueryTooLong = most_bytes < length text
FaultOf text (Lex f) = Refuses text (reading.Lex f)
FaultOf text (Expected at part) = Refuses text (reading.Expected at part)
FaultOf text TooDeep = Refuses text reading.TooDeep
