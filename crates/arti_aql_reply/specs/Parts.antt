-- The parts of a row's object, one behind the other.
use Rattle.std.specs.Prelude.{ℕ, List, [], ◌∷◌, ◌++◌, codes, decimal, Option, Some, None}
use Rattle.json.specs.Print.{quoted}
use Rattle.arti_time.specs.Printed.{printed}
use Rattle.arti_rows.specs.Key.{Key}
use Rattle.arti_model.specs.Query.{Facts, member}

-- a further member
abbrev pub next : List ℕ → List ℕ → List ℕ
next name text = 44 ∷ member name text

unfoldable pub place_text : Key → List ℕ → List ℕ
place_text key kind =
    123 ∷ (member (codes "repo") (quoted key.repo) ++ (next (codes "path") (quoted key.path) ++ (next (codes "name") (quoted key.name) ++ next (codes "type") (quoted kind))))

unfoldable pub size_text : Option ℕ → List ℕ
size_text None = []
size_text (Some n) = next (codes "size") (decimal n)

unfoldable pub making_text : Facts → List ℕ
making_text facts = next (codes "created") (quoted (printed facts.created)) ++ next (codes "created_by") (quoted facts.created_by)

unfoldable pub change_text : Facts → List ℕ
change_text facts =
    next (codes "modified") (quoted (printed facts.modified)) ++ (next (codes "modified_by") (quoted facts.modified_by)
    ++ (next (codes "updated") (quoted (printed facts.updated)) ++ 125 ∷ []))
