-- How the rows of a tree are kept under their ids.
use Rattle.std.specs.Prelude.{ℕ, ◌+◌, ◌==◌, Bool, false, List, [], ◌∷◌, slice_index_or, Option, Some, None}
use Rattle.std.specs.Option.{option_map_or}
use Rattle.arti_rows.specs.Key.{Key}
use Rattle.arti_tree.specs.declared.slot.Slot.{Slot}
use Rattle.arti_tree.specs.Rows.{Row}

-- what is kept under an id
abbrev pub at : List (Option Slot) → ℕ → Option Slot
at slots id = slice_index_or slots id None

-- the row that is kept under an id
abbrev pub row_with : ℕ → Slot → Row
row_with id s = record { id = id; key = s.key; is_file = s.is_file }

-- the live rows, the first slot being that of id n
abbrev pub live : ℕ → List (Option Slot) → List Row
live n [] = []
live n (None ∷ slots) = live (n + 1) slots
live n (Some s ∷ slots) = row_with n s ∷ live (n + 1) slots

-- stands for the key of a row that is not there
abbrev pub no_key : Key
no_key = record { repo = []; path = []; name = [] }

-- the key that is kept under an id
abbrev pub key_at : List (Option Slot) → ℕ → Key
key_at slots id = option_map_or (λ s. s.key) (at slots id) no_key

-- this id is given
abbrev pub is_it : Option ℕ → ℕ → Bool
is_it None id = false
is_it (Some x) id = x == id
