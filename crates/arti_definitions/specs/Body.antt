-- What the body of a request to define a repository says (of this project, after the members of JFrog's repository configuration).
use Rattle.std.specs.Prelude.{ℕ, ◌==◌, nat_lt, nat_eq, if◌then◌else◌, List, [], length, codes, Option, Some, None, Result, Ok, Err}
use Rattle.std.specs.List.{starts_with}
use Rattle.std.specs.Str.{bytes_eq}
use Rattle.serde_json.specs.Data.{Data}
use Rattle.serde_json.specs.Find.{get}
use Rattle.arti_rows.specs.declared.rows.Class.{Class}
use Rattle.arti_rows.specs.declared.rows.Class.TheVariants.{Local, Remote, Virtual}
use Rattle.arti_rows.specs.declared.rows.RepoDef.{RepoDef}
use Rattle.arti_json.specs.declared.fault.JsonFault.{JsonFault}
use Rattle.arti_json.specs.declared.fault.JsonFault.TheVariants.{WrongKind, TooLong}
use Rattle.arti_definitions.specs.Documents.{document, read_of, then_read, text_in, required_in}
use Rattle.arti_definitions.specs.Keys.{key_from, keys_of}

-- ---- members one by one

-- `rclass`
abbrev pub class_named : List ℕ → Result Class JsonFault
class_named text =
    if bytes_eq text (codes "local") then Ok Local
    else (if bytes_eq text (codes "remote") then Ok Remote
    else (if bytes_eq text (codes "virtual") then Ok Virtual else Err (WrongKind (codes "rclass"))))

abbrev pub class_in : Data → Result Class JsonFault
class_in doc = then_read (required_in (codes "rclass") doc) (λ text. class_named text)

-- `url`, which a remote has to have
abbrev pub url_from : List ℕ → Result (List ℕ) JsonFault
url_from text = if starts_with nat_eq text (codes "http://") then Ok text else Err (WrongKind (codes "url"))

abbrev pub url_in : Class → Data → Result (List ℕ) JsonFault
url_in Local doc = Ok []
url_in Remote doc = then_read (required_in (codes "url") doc) (λ text. url_from text)
url_in Virtual doc = Ok []

-- `repositories`, a virtual's
abbrev pub members_in : Class → Data → Result (List (List ℕ)) JsonFault
members_in Local doc = Ok []
members_in Remote doc = Ok []
members_in Virtual doc = keys_of (codes "repositories") (get (codes "repositories") doc)

-- `defaultDeploymentRepo`, a virtual's; an empty one is none
abbrev pub default_from : Option (List ℕ) → Result (Option (List ℕ)) JsonFault
default_from None = Ok None
default_from (Some text) = if length text == 0 then Ok None else then_read (key_from (codes "defaultDeploymentRepo") text) (λ key. Ok (Some key))

abbrev pub default_in : Class → Data → Result (Option (List ℕ)) JsonFault
default_in Local doc = Ok None
default_in Remote doc = Ok None
default_in Virtual doc = then_read (text_in (codes "defaultDeploymentRepo") doc) (λ text. default_from text)

-- a pattern; one that isn't there, or is empty, is another one
abbrev pub pattern_from : List ℕ → Option (List ℕ) → List ℕ
pattern_from usual None = usual
pattern_from usual (Some text) = if length text == 0 then usual else text

abbrev pub pattern_in : List ℕ → List ℕ → Data → Result (List ℕ) JsonFault
pattern_in name usual doc = then_read (text_in name doc) (λ text. Ok (pattern_from usual text))

-- `key`: if it is there, it is the definition's
abbrev pub same_key_from : List ℕ → Option (List ℕ) → Result (List ℕ) JsonFault
same_key_from key None = Ok key
same_key_from key (Some text) = if bytes_eq text key then Ok key else Err (WrongKind (codes "key"))

-- a remote's leaves room for the key of its cache
abbrev pub with_room : Class → List ℕ → Result (List ℕ) JsonFault
with_room Local key = Ok key
with_room Remote key = if nat_lt 58 (length key) then Err (TooLong (codes "key")) else Ok key
with_room Virtual key = Ok key

abbrev pub own_key_in : Class → List ℕ → Data → Result (List ℕ) JsonFault
own_key_in class key doc = then_read (text_in (codes "key") doc) (λ text. then_read (same_key_from key text) (λ same. with_room class same))

-- ---- the whole

-- the members in this order, of which the first that has a fault is told
abbrev pub definition_in : List ℕ → Data → Result RepoDef JsonFault
definition_in key doc =
    then_read (class_in doc) (λ class.
    then_read (url_in class doc) (λ url.
    then_read (members_in class doc) (λ members.
    then_read (default_in class doc) (λ default_to.
    then_read (pattern_in (codes "includesPattern") (codes "**/*") doc) (λ includes.
    then_read (pattern_in (codes "excludesPattern") [] doc) (λ excludes.
    then_read (own_key_in class key doc) (λ own.
    Ok (record { key = own; class = class; url = url; members = members; default_to = default_to; includes = includes; excludes = excludes }))))))))

-- the definition of a key that a body gives
abbrev pub definition_of : List ℕ → List ℕ → Result RepoDef JsonFault
definition_of key body = read_of (document body) (λ doc. definition_in key doc)
