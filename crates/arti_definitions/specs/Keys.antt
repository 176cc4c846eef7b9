-- Members that hold keys of repositories: a bad character is a wrong kind, and goes before a bad length (of this project).
use Rattle.std.specs.Prelude.{ℕ, Bool, not, ◌&&◌, nat_lt, if◌then◌else◌, List, [], ◌∷◌, ◌++◌, length, Option, Some, None, Result, Ok, Err}
use Rattle.std.specs.List.{list_all}
use Rattle.serde_json.specs.Data.{Data, null, boolean, number, string, array, object, Items, no_items, item}
use Rattle.arti_rows.specs.Names.{is_repo_key, is_repo_byte, is_one_of, reserved_keys}
use Rattle.arti_json.specs.declared.fault.JsonFault.{JsonFault}
use Rattle.arti_json.specs.declared.fault.JsonFault.TheVariants.{WrongKind, TooLong}
use Rattle.arti_definitions.specs.Documents.{then_read}

-- the characters of a repository's key, of whatever length
abbrev pub has_key_characters : List ℕ → Bool
has_key_characters text = list_all is_repo_byte text && not (is_one_of reserved_keys text)

-- a text as a repository's key
abbrev pub key_from : List ℕ → List ℕ → Result (List ℕ) JsonFault
key_from name text = if is_repo_key text then Ok text else (if has_key_characters text then Err (TooLong name) else Err (WrongKind name))

-- a text of at most 4,096 bytes, as a key
abbrev pub short_key : List ℕ → List ℕ → Result (List ℕ) JsonFault
short_key name text = if nat_lt 4096 (length text) then Err (TooLong name) else key_from name text

-- the key that a value of a list is
abbrev pub key_in : List ℕ → Data → Result (List ℕ) JsonFault
key_in name (string text) = short_key name text
key_in name null = Err (WrongKind name)
key_in name (boolean flag) = Err (WrongKind name)
key_in name (number n) = Err (WrongKind name)
key_in name (array _) = Err (WrongKind name)
key_in name (object _) = Err (WrongKind name)

-- keys behind others
abbrev pub behind : List (List ℕ) → Result (List (List ℕ)) JsonFault → Result (List (List ℕ)) JsonFault
behind front (Ok keys) = Ok (front ++ keys)
behind front (Err fault) = Err fault

-- the keys that the values of a list are
abbrev pub keys_from : List ℕ → Items → Result (List (List ℕ)) JsonFault
keys_from name no_items = Ok []
keys_from name (item value values) = then_read (key_in name value) (λ key. behind (key ∷ []) (keys_from name values))

-- no more than 256 of them
abbrev pub at_most : List ℕ → List (List ℕ) → Result (List (List ℕ)) JsonFault
at_most name keys = if nat_lt 256 (length keys) then Err (TooLong name) else Ok keys

abbrev pub few_keys : List ℕ → Items → Result (List (List ℕ)) JsonFault
few_keys name values = then_read (keys_from name values) (λ keys. at_most name keys)

-- the keys that a member lists; where it isn't there, or is null, there are none
abbrev pub keys_of : List ℕ → Option Data → Result (List (List ℕ)) JsonFault
keys_of name None = Ok []
keys_of name (Some null) = Ok []
keys_of name (Some (array values)) = few_keys name values
keys_of name (Some (boolean flag)) = Err (WrongKind name)
keys_of name (Some (number n)) = Err (WrongKind name)
keys_of name (Some (string text)) = Err (WrongKind name)
keys_of name (Some (object _)) = Err (WrongKind name)
