-- What a document's member of a name tells: where it isn't there, or is null, there is none (of this project).
use Rattle.std.specs.Prelude.{ℕ, Bool, nat_lt, if◌then◌else◌, List, length, Option, Some, None, Result, Ok, Err}
use Rattle.serde_json.specs.Data.{Num, unsigned, negative, float, Data, null, boolean, number, string, array, object}
use Rattle.arti_json.specs.declared.fault.JsonFault.{JsonFault}
use Rattle.arti_json.specs.declared.fault.JsonFault.TheVariants.{WrongKind, TooLong}

-- a text of at most 4,096 bytes
abbrev pub kept_text : List ℕ → List ℕ → Result (Option (List ℕ)) JsonFault
kept_text key text = if nat_lt 4096 (length text) then Err (TooLong key) else Ok (Some text)

abbrev pub text_of : List ℕ → Option Data → Result (Option (List ℕ)) JsonFault
text_of key None = Ok None
text_of key (Some null) = Ok None
text_of key (Some (string text)) = kept_text key text
text_of key (Some (boolean flag)) = Err (WrongKind key)
text_of key (Some (number n)) = Err (WrongKind key)
text_of key (Some (array _)) = Err (WrongKind key)
text_of key (Some (object _)) = Err (WrongKind key)

abbrev pub flag_of : List ℕ → Bool → Option Data → Result Bool JsonFault
flag_of key default None = Ok default
flag_of key default (Some null) = Ok default
flag_of key default (Some (boolean flag)) = Ok flag
flag_of key default (Some (string text)) = Err (WrongKind key)
flag_of key default (Some (number n)) = Err (WrongKind key)
flag_of key default (Some (array _)) = Err (WrongKind key)
flag_of key default (Some (object _)) = Err (WrongKind key)

-- an integer from 0 on that 64 bits hold; one with a sign, a point or an exponent is of another kind
abbrev pub kept_number : List ℕ → Num → Result (Option ℕ) JsonFault
kept_number key (unsigned n) = Ok (Some n)
kept_number key (negative n) = Err (WrongKind key)
kept_number key (float n) = Err (WrongKind key)

abbrev pub number_of : List ℕ → Option Data → Result (Option ℕ) JsonFault
number_of key None = Ok None
number_of key (Some null) = Ok None
number_of key (Some (number n)) = kept_number key n
number_of key (Some (boolean flag)) = Err (WrongKind key)
number_of key (Some (string text)) = Err (WrongKind key)
number_of key (Some (array _)) = Err (WrongKind key)
number_of key (Some (object _)) = Err (WrongKind key)
