-- A text in double quotes: its pieces, which are escapes and other bytes, its end, and the bytes that it stands for.
use Rattle.std.specs.Prelude.{◌≡◌, Bool, not, ◌||◌, ℕ, zero, suc, ◌+◌, ◌-◌, List, [], ◌∷◌, ◌++◌, slice_index, if◌then◌else◌, ◌==◌, nat_lt, Result, Ok, Err}
use Rattle.std.specs.Char.{encode_utf8}
use Rattle.arti_aql_lex.specs.Escape.{◌>>=◌, escape_at}
use Rattle.arti_aql_lex.specs.declared.escape.Spoiled.{Spoiled}
use Rattle.arti_aql_lex.specs.declared.escape.Spoiled.TheVariants.{Cut, Malformed}
use Rattle.arti_aql_lex.specs.declared.token.LexFault.{LexFault}
use Rattle.arti_aql_lex.specs.declared.token.LexFault.TheVariants.{BadByte, OpenText, BadEscape}

-- the fault of a spoiled escape in a text: one that the end cuts leaves the text open
abbrev pub spoiled_at : ℕ → ℕ → Spoiled → LexFault
spoiled_at opening place Cut = OpenText opening
spoiled_at opening place Malformed = BadEscape place

abbrev pub escape_len : ℕ → ℕ → Result (ℕ × ℕ) Spoiled → Result ℕ LexFault
escape_len opening place (Ok e) = Ok e.1
escape_len opening place (Err s) = Err (spoiled_at opening place s)

-- how many bytes the piece at the front has
unfoldable pub piece_len : ℕ → ℕ → List ℕ → Result ℕ LexFault
piece_len opening place rest =
    if nat_lt (slice_index rest 0) 32 then Err (BadByte place)
    else if slice_index rest 0 == 92 then escape_len opening place (escape_at rest)
    else Ok 1

-- The place behind the closing quote of a text, whose pieces go on after so many more bytes.
unfoldable pub literal_end : (opening place more : ℕ) → List ℕ → Result ℕ LexFault
literal_end opening place more [] = Err (OpenText opening)
literal_end opening place (suc n) (b ∷ bs) = literal_end opening (place + 1) n bs
literal_end opening place zero (b ∷ bs) =
    if b == 34 then Ok (place + 1) else (piece_len opening place (b ∷ bs) >>= λ n. literal_end opening (place + 1) (n - 1) bs)

abbrev pub character_of : Result (ℕ × ℕ) Spoiled → List ℕ
character_of (Ok e) = encode_utf8 e.0
character_of (Err s) = []

abbrev pub width_of : Result (ℕ × ℕ) Spoiled → ℕ
width_of (Ok e) = e.1
width_of (Err s) = 1

-- the bytes that the piece at the front stands for
unfoldable pub piece_text : List ℕ → List ℕ
piece_text rest = if slice_index rest 0 == 92 then character_of (escape_at rest) else slice_index rest 0 ∷ []

unfoldable pub piece_width : List ℕ → ℕ
piece_width rest = if slice_index rest 0 == 92 then width_of (escape_at rest) else 1

-- The bytes that a text stands for, up to its closing quote. Its pieces go on after so many more bytes.
unfoldable pub literal_text : (more : ℕ) → List ℕ → List ℕ
literal_text more [] = []
literal_text (suc n) (b ∷ bs) = literal_text n bs
literal_text zero (b ∷ bs) = if b == 34 then [] else piece_text (b ∷ bs) ++ literal_text (piece_width (b ∷ bs) - 1) bs

-- these bytes go on to a closing quote, without a fault
abbrev pub IsClosed : List ℕ → Type 0
IsClosed rest = (opening : ℕ) × (place : ℕ) × (end : ℕ) × (literal_end opening place 0 rest ≡ Ok end)

-- a byte that stands for itself, unless it is a control character
abbrev pub is_plain : ℕ → Bool
is_plain b = not ((b == 34) || (b == 92))
