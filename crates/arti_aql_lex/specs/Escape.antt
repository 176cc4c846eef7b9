-- The escapes of a text (RFC 8259, section 7), read from the backslash on. A surrogate stands only in a pair.
use Rattle.std.specs.Prelude.{ℕ, ◌+◌, ◌-◌, ◌*◌, List, Bool, length, slice_index, if◌then◌else◌, ◌==◌, ◌&&◌, ◌||◌, nat_lt, nat_le, Option, Some, None, Result, Ok, Err}
use Rattle.std.specs.Char.{is_digit, digit_value}
use Rattle.arti_aql_lex.specs.declared.escape.Spoiled.{Spoiled}
use Rattle.arti_aql_lex.specs.declared.escape.Spoiled.TheVariants.{Cut, Malformed}

infixl 10 ◌>>=◌
abbrev pub ◌>>=◌ : {A B E : Type 0} → Result A E → (A → Result B E) → Result B E
(Ok x) >>= f = f x
(Err e) >>= f = Err e

-- the value of a hex digit
abbrev pub hex_digit : ℕ → Result ℕ Spoiled
hex_digit c = if is_digit c 16 then Ok (digit_value c) else Err Malformed

-- the value of the hex digit at a place
unfoldable pub hex_at : List ℕ → ℕ → Result ℕ Spoiled
hex_at rest at = if nat_lt at (length rest) then hex_digit (slice_index rest at) else Err Cut

-- the code unit that four hex digits spell
unfoldable pub unit_at : List ℕ → ℕ → Result ℕ Spoiled
unit_at rest at = do
  a ← hex_at rest at
  b ← hex_at rest (at + 1)
  c ← hex_at rest (at + 2)
  d ← hex_at rest (at + 3)
  Ok (a * 4096 + b * 256 + c * 16 + d)

-- this byte stands at that place
unfoldable pub byte_at : List ℕ → ℕ → ℕ → Result (Unit {0}) Spoiled
byte_at rest at byte = if nat_lt at (length rest) then (if slice_index rest at == byte then Ok tt else Err Malformed) else Err Cut

-- what a backslash and this byte stand for, other than `\u`
unfoldable pub short_escape : ℕ → Option ℕ
short_escape c =
    if (c == 34) || ((c == 92) || (c == 47)) then Some c
    else if c == 98 then Some 8
    else if c == 102 then Some 12
    else if c == 110 then Some 10
    else if c == 114 then Some 13
    else if c == 116 then Some 9
    else None

abbrev pub is_high_surrogate : ℕ → Bool
is_high_surrogate u = nat_le 0xd800 u && nat_lt u 0xdc00

abbrev pub is_low_surrogate : ℕ → Bool
is_low_surrogate u = nat_le 0xdc00 u && nat_lt u 0xe000

-- the character of two surrogates (RFC 8259, section 7)
abbrev pub surrogate_pair : ℕ → ℕ → ℕ
surrogate_pair high low = 0x10000 + (high - 0xd800) * 1024 + (low - 0xdc00)

-- the character of a pair whose first unit is this, and how many bytes the pair's escapes have
unfoldable pub pair_at : List ℕ → ℕ → Result (ℕ × ℕ) Spoiled
pair_at rest high = do
  backslash ← byte_at rest 6 92
  letter ← byte_at rest 7 117
  low ← unit_at rest 8
  if is_low_surrogate low then Ok (surrogate_pair high low, 12) else Err Malformed

-- the character of an escape by code units, and how many bytes it has
unfoldable pub unicode_at : List ℕ → Result (ℕ × ℕ) Spoiled
unicode_at rest = do
  unit ← unit_at rest 2
  if is_high_surrogate unit then pair_at rest unit else if is_low_surrogate unit then Err Malformed else Ok (unit, 6)

abbrev pub short_at : Option ℕ → Result (ℕ × ℕ) Spoiled
short_at (Some c) = Ok (c, 2)
short_at None = Err Malformed

-- the character of the escape at the front, and how many bytes it has
unfoldable pub escape_at : List ℕ → Result (ℕ × ℕ) Spoiled
escape_at rest =
    if nat_lt (length rest) 2 then Err Cut
    else if slice_index rest 1 == 117 then unicode_at rest
    else short_at (short_escape (slice_index rest 1))
