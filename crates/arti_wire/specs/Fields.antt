-- What contracts see of the fields of a head.
use Rattle.std.specs.Prelude.{ℕ, List, [], ◌∷◌, map, Vec, Option, Some, None}
use Rattle.std.specs.declared.alloc.Global.{Global}
use Rattle.arti_model.specs.Requests.{FieldText}

-- the texts of the fields
abbrev pub texts_of : List (List ℕ × Vec ℕ Global) → List FieldText
texts_of fields = map (λ (f : List ℕ × Vec ℕ Global). (f.0, f.1.items)) fields

-- the first of the values, if there is one
abbrev pub first_value : List (List ℕ) → Option (List ℕ)
first_value [] = None
first_value (first ∷ others) = Some first
