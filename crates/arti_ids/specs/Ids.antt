-- Ascending lists of ids.
use Rattle.std.specs.Prelude.{◌≡◌, ℕ, ◌<◌, ◌⊎◌, ◌==◌, nat_lt, Bool, true, List, [], ◌∷◌, ◌++◌, length, All}
use Rattle.std.specs.List.{filter, list_any}

-- the ids of a list, and for how many it has room
pub record IdList : Type 0 where
  pub ids : List ℕ
  pub capacity : ℕ

-- the id is among them
abbrev pub has_id : ℕ → List ℕ → Bool
has_id id ids = list_any (λ x. x == id) ids

-- the id fits into ids without an allocation: there is room for one more, or it is there
abbrev pub Fits : ℕ → List ℕ → ℕ → Type 0
Fits id ids capacity = (length ids < capacity) ⊎ (has_id id ids ≡ true)

-- the list takes the id without an allocation
abbrev pub Takes : ℕ → IdList → Type 0
Takes id list = Fits id list.ids list.capacity

-- each id is below all that follow
abbrev pub Ascends : {X : Type 0} → (X → ℕ) → List X → Type 0
Ascends id_of [] = Unit {0}
Ascends id_of (x ∷ xs) = All (λ y. id_of x < id_of y) xs × Ascends id_of xs

module _ {X : Type 0} (id_of : X → ℕ) (id : ℕ) where
  -- what has a lower id
  abbrev pub lower : List X → List X
  lower xs = filter (λ x. nat_lt (id_of x) id) xs

  -- what has a higher id
  abbrev pub higher : List X → List X
  higher xs = filter (λ x. nat_lt id (id_of x)) xs

-- the ids with this one among them, once
abbrev pub with_id : ℕ → List ℕ → List ℕ
with_id id ids = lower (λ x. x) id ids ++ id ∷ higher (λ x. x) id ids

-- the other ids
abbrev pub without_id : ℕ → List ℕ → List ℕ
without_id id ids = lower (λ x. x) id ids ++ higher (λ x. x) id ids
