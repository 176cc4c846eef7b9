-- The front of a row of tokens.
use Rattle.std.specs.Prelude.{ℕ, List, [], Bool, true, false, if◌then◌else◌, Option, Some, None}
use Rattle.arti_aql_lex.specs.Lexed.{Lexed, finish, fault, token}
use Rattle.arti_aql_lex.specs.declared.token.TokenKind.{TokenKind}
use Rattle.arti_aql_lex.specs.declared.token.TokenKind.TheVariants.{Name, Words, Number, End}
use Rattle.arti_rows.specs.declared.refusal.What.{What}
use Rattle.arti_aql_parse.specs.Words as word
use Rattle.arti_aql_parse.specs.declared.fault.ReadFault.{ReadFault}
use Rattle.arti_aql_parse.specs.declared.fault.ReadFault.TheVariants.{Lex, Expected}
use Rattle.arti_aql_parse.specs.declared.query.Lit.{Lit}
use Rattle.arti_aql_parse.specs.declared.query.Lit.TheVariants as lit

-- the kind of the first token; none where a fault stands there
abbrev pub kind_at : Lexed → Option TokenKind
kind_at (finish at) = Some End
kind_at (fault f) = None
kind_at (token s e kind value rest) = Some kind

-- what the first token stands for
abbrev pub first_value : Lexed → List ℕ
first_value (finish at) = []
first_value (fault f) = []
first_value (token s e kind value rest) = value

-- what comes behind the first token
abbrev pub tail : Lexed → Lexed
tail (finish at) = finish at
tail (fault f) = fault f
tail (token s e kind value rest) = rest

-- a token comes first, and not the end or a fault
abbrev pub is_token : Lexed → Bool
is_token (finish at) = false
is_token (fault f) = false
is_token (token s e kind value rest) = true

-- the literal that a token is
abbrev pub literal_of : TokenKind → List ℕ → Option Lit
literal_of Words value = Some (lit.Words value)
literal_of Number value = Some (lit.Number (word.number_of value))
literal_of Name value = if word.is_null value then Some lit.Null else None
literal_of _ value = None

-- the literal that the first token is
abbrev pub literal_at : Lexed → Option Lit
literal_at (finish at) = None
literal_at (fault f) = None
literal_at (token s e kind value rest) = literal_of kind value

-- the refusal of tokens at whose front a part should begin
abbrev pub wrong : What → Lexed → ReadFault
wrong part (finish at) = Expected at part
wrong part (fault f) = Lex f
wrong part (token s e kind value rest) = Expected s part
