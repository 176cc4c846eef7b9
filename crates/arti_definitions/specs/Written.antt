-- Definitions as the texts that tell of them (of this project, after JFrog's repository configuration).
use Rattle.std.specs.Prelude.{ℕ, List, [], ◌∷◌, ◌++◌, map, flat_map, codes, Option, Some, None}
use Rattle.json.specs.Print.{quoted}
use Rattle.arti_rows.specs.declared.rows.Class.{Class}
use Rattle.arti_rows.specs.declared.rows.Class.TheVariants.{Local, Remote, Virtual}
use Rattle.arti_rows.specs.declared.rows.RepoDef.{RepoDef}

abbrev pub class_name : Class → List ℕ
class_name Local = codes "local"
class_name Remote = codes "remote"
class_name Virtual = codes "virtual"

abbrev pub type_name : Class → List ℕ
type_name Local = codes "LOCAL"
type_name Remote = codes "REMOTE"
type_name Virtual = codes "VIRTUAL"

abbrev pub text_or_none : Option (List ℕ) → List ℕ
text_or_none None = []
text_or_none (Some text) = text

-- texts with a comma between them
abbrev pub with_commas : List (List ℕ) → List ℕ
with_commas [] = []
with_commas (text ∷ texts) = text ++ flat_map (λ t. 44 ∷ t) texts

-- a text in quotes behind what stands before it
abbrev pub after : List ℕ → List ℕ → List ℕ
after front text = front ++ quoted text

-- what a definition is, and where it gets its contents
abbrev pub kind_text : RepoDef → List ℕ
kind_text d = after (codes "{\"key\":") d.key ++ (after (codes ",\"rclass\":") (class_name d.class) ++ after (codes ",\"url\":") d.url)

abbrev pub members_text : RepoDef → List ℕ
members_text d = codes ",\"repositories\":[" ++ (with_commas (map quoted d.members) ++ after (codes "],\"defaultDeploymentRepo\":") (text_or_none d.default_to))

abbrev pub patterns_text : RepoDef → List ℕ
patterns_text d = after (codes ",\"includesPattern\":") d.includes ++ (after (codes ",\"excludesPattern\":") d.excludes ++ codes "}")

-- the object of a definition
abbrev pub definition_text : RepoDef → List ℕ
definition_text d = kind_text d ++ (members_text d ++ patterns_text d)

-- a definition among others
abbrev pub entry_text : RepoDef → List ℕ
entry_text d = after (codes "{\"key\":") d.key ++ (after (codes ",\"type\":") (type_name d.class) ++ codes "}")

-- all of them, in their order
abbrev pub list_text : List RepoDef → List ℕ
list_text defs = codes "[" ++ (with_commas (map entry_text defs) ++ codes "]")
