-- What the words of a command line ask.
use Rattle.std.specs.Prelude.{ℕ, Bool, false, not, ◌&&◌, nat_lt, nat_le, nat_eq, if◌then◌else◌, List, [], ◌∷◌, length, codes, Option, Some, None}
use Rattle.std.specs.List.{list_all}
use Rattle.std.specs.Char.{is_ascii_digit}
use Rattle.std.specs.Str.{bytes_eq}
use Rattle.std.specs.Str.Parse.{digits_value}
use Rattle.arti_main.specs.declared.words.Command.{Command}
use Rattle.arti_main.specs.declared.words.Command.TheVariants.{Replay}

-- a first byte 0 with more behind it
abbrev pub has_leading_zero : List ℕ → Bool
has_leading_zero [] = false
has_leading_zero (b ∷ bytes) = nat_eq b 48 && nat_lt 0 (length bytes)

-- decimal digits, at least one, without a leading zero
abbrev pub is_number : List ℕ → Bool
is_number text = nat_lt 0 (length text) && list_all is_ascii_digit text && not (has_leading_zero text)

-- the greatest first moment, so that each request of a stream has one
abbrev pub greatest_start : ℕ
greatest_start = 253402200000000

-- the number of a text that is one and isn't too great
abbrev pub start_of : List ℕ → Option ℕ
start_of text = if is_number text && nat_le (digits_value 10 text) greatest_start then Some (digits_value 10 text) else None

-- a replay from that moment
abbrev pub replay_from : Option ℕ → Option Command
replay_from None = None
replay_from (Some start) = Some (Replay start)

-- the command that the words are, if they are one
abbrev pub command_of : List (List ℕ) → Option Command
command_of (name ∷ flag ∷ start ∷ []) =
    if bytes_eq name (codes "replay") && bytes_eq flag (codes "--start") then replay_from (start_of start) else None
command_of words = None
