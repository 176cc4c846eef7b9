-- The token at a place of a text, or the fault there.
use Rattle.std.specs.Prelude.{◌≡◌, ◌<◌, ◌≤◌, ℕ, ◌+◌, ◌-◌, List, Bool, true, false, length, take, drop, slice_index, if◌then◌else◌, ◌==◌, ◌&&◌, ◌||◌, nat_lt, Option, Some, None, Result, Ok, Err}
use Rattle.std.specs.List.{prefix_len}
use Rattle.std.specs.Char.{is_ascii_digit, is_ascii_alphabetic}
use Rattle.arti_aql_lex.specs.Literal.{literal_end, literal_text}
use Rattle.arti_aql_lex.specs.declared.token.LexFault.{LexFault}
use Rattle.arti_aql_lex.specs.declared.token.LexFault.TheVariants.{BadByte}
use Rattle.arti_aql_lex.specs.declared.token.Token.{Token}
use Rattle.arti_aql_lex.specs.declared.token.TokenKind.{TokenKind}
use Rattle.arti_aql_lex.specs.declared.token.TokenKind.TheVariants.{Name, Words, Number, Dot, Open, Close, ObjectOpen, ObjectClose, ListOpen, ListClose, Colon, Comma, End}

-- space, tab, CR and LF
abbrev pub is_blank : ℕ → Bool
is_blank b = (b == 32) || ((b == 9) || ((b == 13) || (b == 10)))

-- a letter or `_`
abbrev pub is_name_start : ℕ → Bool
is_name_start b = is_ascii_alphabetic b || (b == 95)

-- the same, or a digit
abbrev pub is_name_byte : ℕ → Bool
is_name_byte b = is_name_start b || is_ascii_digit b

-- the marks . ( ) { } [ ] : ,
unfoldable pub mark_of : ℕ → Option TokenKind
mark_of b =
    if b == 46 then Some Dot
    else if b == 40 then Some Open
    else if b == 41 then Some Close
    else if b == 123 then Some ObjectOpen
    else if b == 125 then Some ObjectClose
    else if b == 91 then Some ListOpen
    else if b == 93 then Some ListClose
    else if b == 58 then Some Colon
    else if b == 44 then Some Comma
    else None

-- how many bytes the sign of a number has
abbrev pub sign_len : List ℕ → ℕ
sign_len rest = if slice_index rest 0 == 45 then 1 else 0

-- where a number ends that has this many bytes of sign and so many digits behind it
abbrev pub digits_end : ℕ → List ℕ → ℕ → ℕ → Result ℕ LexFault
digits_end place rest sign digits =
    if digits == 0 then Err (BadByte place)
    else if (slice_index rest sign == 48) && nat_lt 1 digits then Err (BadByte (place + sign))
    else if nat_lt 18 digits then Err (BadByte (place + sign + 18))
    else Ok (place + sign + digits)

-- Where a number ends: the longest row of digits counts. It has 1 to 18 of them, and no leading zero.
unfoldable pub number_end : ℕ → List ℕ → Result ℕ LexFault
number_end place rest = digits_end place rest (sign_len rest) (prefix_len is_ascii_digit (drop (sign_len rest) rest))

-- the token of a kind from one place to another, which a reader found
abbrev pub token_to : TokenKind → ℕ → Result ℕ LexFault → Result Token LexFault
token_to kind start (Ok end) = Ok (record { kind = kind; start = start; end = end })
token_to kind start (Err f) = Err f

abbrev pub mark_at : ℕ → Option TokenKind → Result Token LexFault
mark_at place (Some kind) = token_to kind place (Ok (place + 1))
mark_at place None = Err (BadByte place)

-- the token that begins at a place with these bytes
unfoldable pub token_at : ℕ → List ℕ → Result Token LexFault
token_at place rest =
    if length rest == 0 then token_to End place (Ok place)
    else if is_name_start (slice_index rest 0) then token_to Name place (Ok (place + prefix_len is_name_byte rest))
    else if is_ascii_digit (slice_index rest 0) || (slice_index rest 0 == 45) then token_to Number place (number_end place rest)
    else if slice_index rest 0 == 34 then token_to Words place (literal_end place (place + 1) 0 (drop 1 rest))
    else mark_at place (mark_of (slice_index rest 0))

abbrev pub is_words : TokenKind → Bool
is_words Words = true
is_words _ = false

abbrev pub is_end : TokenKind → Bool
is_end End = true
is_end _ = false

-- What a token stands for, whose bytes stand at the front: the text of one in quotes, the bytes themselves of any other.
abbrev pub value_at : Token → List ℕ → List ℕ
value_at t rest = if is_words t.kind then literal_text 0 (drop 1 rest) else take (t.end - t.start) rest

-- what a token of a text stands for
abbrev pub text_of : List ℕ → Token → List ℕ
text_of text t = value_at t (drop t.start text)

-- the text has this token at its place
pub record HasToken (text : List ℕ) (t : Token) : Type 0 where
  pub forward : t.start ≤ t.end
  pub within : t.end ≤ length text
  pub read : token_at t.start (drop t.start text) ≡ Ok t

-- these bytes are a number's: perhaps a minus, and 1 to 18 digits
pub record IsNumber (bytes : List ℕ) : Type 0 where
  pub some : sign_len bytes < length bytes
  pub few : length bytes ≤ sign_len bytes + 18
  pub digits : (i : ℕ) → sign_len bytes ≤ i → i < length bytes → is_ascii_digit (slice_index bytes i) ≡ true

abbrev pub is_number : TokenKind → Bool
is_number Number = true
is_number _ = false
