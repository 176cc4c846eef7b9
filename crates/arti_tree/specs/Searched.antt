-- What a search among the ids in the default order goes by.
use Rattle.std.specs.Prelude.{◌≡◌, ℕ, ◌<◌, List, length, slice_index, Option, IsSome}
use Rattle.std.specs.declared.cmp.Ordering.TheVariants.{Less}
use Rattle.arti_rows.specs.Key.{Key, key_cmp}
use Rattle.arti_tree.specs.declared.slot.Slot.{Slot}
use Rattle.arti_tree.specs.Slots.{at, key_at}

-- the key of these parts
abbrev pub key : List ℕ → List ℕ → List ℕ → Key
key repo path name = record { repo = repo; path = path; name = name }

-- each of the ids is that of a row
abbrev pub AllLive : List (Option Slot) → List ℕ → Type 0
AllLive slots order = (i : ℕ) → i < length order → IsSome (at slots (slice_index order i))

-- the keys under the ids rise
abbrev pub RisingAt : List (Option Slot) → List ℕ → Type 0
RisingAt slots order = (i j : ℕ) → i < j → j < length order → key_cmp (key_at slots (slice_index order i)) (key_at slots (slice_index order j)) ≡ Less
