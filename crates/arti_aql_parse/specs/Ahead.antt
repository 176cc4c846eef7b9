-- What a reader knows of the tokens that are to come.
use Rattle.std.specs.Prelude.{◌≡◌, List, ℕ, Result, Ok, Err, Option, Some, None}
use Rattle.arti_aql_lex.specs.Lexed.{Lexed, fault, Reading, ahead, before}
use Rattle.arti_aql_lex.specs.Tokens.{HasToken}
use Rattle.arti_aql_lex.specs.declared.token.Token.{Token}
use Rattle.arti_aql_lex.specs.declared.token.LexFault.{LexFault}
use Rattle.arti_aql_parse.specs.Front.{tail, literal_at}
use Rattle.arti_aql_parse.specs.declared.query.Lit.{Lit}

-- the tokens to come, of which the first was read
abbrev pub shown : Result Token LexFault → Reading → Lexed
shown (Ok t) r = before r.text t (ahead r)
shown (Err f) r = fault f

-- how far a text was read: its first token to come, and what is read behind it
pub record Standing : Type 0 where
  pub first : Result Token LexFault
  pub behind : Reading

abbrev pub to_come : Standing → Lexed
to_come s = shown s.first s.behind

-- the first token, where there is one, is one of the text
abbrev pub IsFirst : Result Token LexFault → List ℕ → Type 0
IsFirst (Ok t) text = HasToken text t
IsFirst (Err f) text = Unit {0}

-- a literal was passed, or none stands there
abbrev pub TakesLiteral : Option Lit → Lexed → Lexed → Type 0
TakesLiteral (Some x) old new = (literal_at old ≡ Some x) × (new ≡ tail old)
TakesLiteral None old new = (literal_at old ≡ None) × (new ≡ old)
