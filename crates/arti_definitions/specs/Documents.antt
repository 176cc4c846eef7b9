-- Documents that are read member by member: the first fault is the answer (of this project).
use Rattle.std.specs.Prelude.{ℕ, if◌then◌else◌, List, Option, Some, None, Result, Ok, Err}
use Rattle.std.specs.Str.{is_utf8}
use Rattle.serde_json.specs.Data.{Data}
use Rattle.serde_json.specs.Read.{read}
use Rattle.serde_json.specs.Find.{get}
use Rattle.arti_json.specs.Members.{text_of}
use Rattle.arti_json.specs.declared.fault.JsonFault.{JsonFault}
use Rattle.arti_json.specs.declared.fault.JsonFault.TheVariants.{NotJson, Missing}

-- the document that bytes spell (RFC 8259)
abbrev pub document : List ℕ → Option Data
document bytes = if is_utf8 bytes then read bytes else None

-- what is read of it, if there is one
abbrev pub read_of : {A : Type 0} → Option Data → (Data → Result A JsonFault) → Result A JsonFault
read_of None f = Err NotJson
read_of (Some doc) f = f doc

-- what is read next, behind what was
abbrev pub then_read : {A B : Type 0} → Result A JsonFault → (A → Result B JsonFault) → Result B JsonFault
then_read (Ok a) f = f a
then_read (Err fault) f = Err fault

-- a member's text
abbrev pub text_in : List ℕ → Data → Result (Option (List ℕ)) JsonFault
text_in name doc = text_of name (get name doc)

-- what has to be there
abbrev pub required : List ℕ → Option (List ℕ) → Result (List ℕ) JsonFault
required name None = Err (Missing name)
required name (Some text) = Ok text

-- the text of a member that has to be there
abbrev pub required_in : List ℕ → Data → Result (List ℕ) JsonFault
required_in name doc = then_read (text_in name doc) (λ text. required name text)
