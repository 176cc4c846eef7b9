-- How far the items of a pattern go, one element each, before one that stands for many.
use Rattle.std.specs.Prelude.{◌≡◌, Bool, false, not, ◌&&◌, if◌then◌else◌, List, [], ◌∷◌}
use Rattle.arti_wild.specs.Fits.{is_nil}

-- the item stands for one element, and for this one
abbrev pub takes : {P X : Type 0} → (P → Bool) → (P → X → Bool) → P → X → Bool
takes many one p x = not (many p) && one p x

-- what is left of both where the items go no further
unfoldable pub run_of : {P X : Type 0} → (P → X → Bool) → List P → List X → List P × List X
run_of takes [] xs = ([], xs)
run_of takes (p ∷ ps) [] = (p ∷ ps, [])
run_of takes (p ∷ ps) (x ∷ xs) = if takes p x then run_of takes ps xs else (p ∷ ps, x ∷ xs)

-- the items go no further
abbrev pub IsStuck : {P X : Type 0} → (P → X → Bool) → List P → List X → Type 0
IsStuck takes [] xs = Unit {0}
IsStuck takes (p ∷ ps) [] = Unit {0}
IsStuck takes (p ∷ ps) (x ∷ xs) = takes p x ≡ false

-- an item that stands for many comes next, or both have ended
abbrev pub landed : {P X : Type 0} → (P → Bool) → List P → List X → Bool
landed many [] xs = is_nil xs
landed many (p ∷ ps) xs = many p
