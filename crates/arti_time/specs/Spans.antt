-- The texts of spans of time: one to six digits and the name of a unit. A form of this project.
use Rattle.std.specs.Prelude.{◌≡◌, ℕ, ◌*◌, ◌≤◌, ◌==◌, ◌||◌, nat_lt, if◌then◌else◌, List, [], ◌∷◌, ◌++◌, length, take, drop, codes, All, Contains, Option, Some, None, option_map}
use Rattle.std.specs.Str.{bytes_eq}
use Rattle.std.specs.Str.Parse.{digits_value}
use Rattle.std.specs.List.{prefix_len}
use Rattle.std.specs.Char.{is_ascii_digit, IsAsciiDigit}

-- the name of a unit, and its milliseconds
pub record SpanUnit : Type 0 where
  pub name : List ℕ
  pub milliseconds : ℕ

-- A month has 30 days, a year 365.
abbrev pub units : List SpanUnit
units =
    record { name = codes "ms"; milliseconds = 1 } ∷ record { name = codes "mills"; milliseconds = 1 }
    ∷ record { name = codes "s"; milliseconds = 1000 } ∷ record { name = codes "seconds"; milliseconds = 1000 }
    ∷ record { name = codes "minutes"; milliseconds = 60000 }
    ∷ record { name = codes "d"; milliseconds = 86400000 } ∷ record { name = codes "days"; milliseconds = 86400000 }
    ∷ record { name = codes "w"; milliseconds = 604800000 } ∷ record { name = codes "weeks"; milliseconds = 604800000 }
    ∷ record { name = codes "mo"; milliseconds = 2592000000 } ∷ record { name = codes "months"; milliseconds = 2592000000 }
    ∷ record { name = codes "y"; milliseconds = 31536000000 } ∷ record { name = codes "years"; milliseconds = 31536000000 }
    ∷ []

-- the text is a number of these digits and this unit, and means so many milliseconds
pub record IsSpan (text ds : List ℕ) (unit : SpanUnit) (milliseconds : ℕ) : Type 0 where
  pub some : 1 ≤ length ds
  pub few : length ds ≤ 6
  pub all : All IsAsciiDigit ds
  pub listed : Contains units unit
  pub written : ds ++ unit.name ≡ text
  pub value : digits_value 10 ds * unit.milliseconds ≡ milliseconds

-- the text is a span of so many milliseconds
abbrev pub ReadsSpan : List ℕ → ℕ → Type 0
ReadsSpan text milliseconds = (ds : List ℕ) × (unit : SpanUnit) × IsSpan text ds unit milliseconds

-- the milliseconds of the unit with the name
abbrev pub unit_among : List SpanUnit → List ℕ → Option ℕ
unit_among [] name = None
unit_among (unit ∷ more) name = if bytes_eq name unit.name then Some unit.milliseconds else unit_among more name

-- the milliseconds of a span, if the text is one
unfoldable pub span_of : List ℕ → Option ℕ
span_of text =
    let len = prefix_len is_ascii_digit text in
    if (len == 0) || nat_lt 6 len
    then None
    else option_map (λ unit. digits_value 10 (take len text) * unit) (unit_among units (drop len text))
