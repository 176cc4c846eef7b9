-- Deploys to a key where nothing is in the way.
use Rattle.std.specs.Prelude.{◌≡◌, ℕ, ℤ, false, List}
use Rattle.arti_rows.specs.Key.{Key}
use Rattle.arti_rows.specs.declared.rows.SomeDigests.{SomeDigests}
use Rattle.arti_model.specs.Store.{File}
use Rattle.arti_model.specs.Stock.{reference_to}
use Rattle.arti_model.specs.Decide.{is_barred}
use Rattle.arti_model.specs.Decide as model
use Rattle.arti_store.specs.Items.{items_of}
use Rattle.arti_store.specs.Store.{View, holding_of}

-- nothing is in the way of the item
abbrev pub IsFree : View → Key → Type 0
IsFree v key = is_barred (items_of v.rows) key ≡ false

-- what the model decides of a deploy of that content over the store
abbrev pub file_over : List ℕ → View → ℤ → Key → SomeDigests → File → model.Decision File
file_over bytes v moment key wanted file =
    model.decide_file (λ f. reference_to f (holding_of bytes v).kept) v.limits (holding_of bytes v).repository moment key wanted file
