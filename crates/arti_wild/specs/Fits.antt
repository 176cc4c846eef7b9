-- A list of pattern items against a list: an item that stands for many elements, or for one.
use Rattle.std.specs.Prelude.{Bool, true, false, ◌||◌, ◌&&◌, if◌then◌else◌, List, [], ◌∷◌}

-- the list, or what follows some front of it, passes the test
unfoldable pub any_rest : {X : Type 0} → (List X → Bool) → List X → Bool
any_rest test [] = test []
any_rest test (x ∷ xs) = test (x ∷ xs) || any_rest test xs

abbrev pub is_nil : {X : Type 0} → List X → Bool
is_nil [] = true
is_nil (x ∷ xs) = false

-- the list has a first element, which passes one test, and the others pass another
abbrev pub first_and_rest : {X : Type 0} → (X → Bool) → (List X → Bool) → List X → Bool
first_and_rest first rest [] = false
first_and_rest first rest (x ∷ xs) = first x && rest xs

-- The list is one that the items stand for, in their order. `many` says which items stand for any number of elements,
-- `one` for which elements another item stands.
unfoldable pub fits : {P X : Type 0} → (P → Bool) → (P → X → Bool) → List P → List X → Bool
fits many one [] xs = is_nil xs
fits many one (p ∷ ps) xs =
    if many p then any_rest (fits many one ps) xs else first_and_rest (one p) (fits many one ps) xs
