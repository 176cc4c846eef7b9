-- What is left of a list, one element on.
use Rattle.std.proofs.Common.{◌≡◌, ℕ, ◌+◌, ◌<◌, List, ◌∷◌, length, get_or, drop, sym, ap, ◌∙◌}
use Rattle.std.proofs.lemmas.List.{at_drop_more}

-- the next element is this one
pub next : {A : Type 0} (xs : List A) (i : ℕ) (x : A) → i < length xs → x ≡ get_or xs i x → drop i xs ≡ x ∷ drop (i + 1) xs
next xs i x lt is = at_drop_more (λ ys. ys) xs i x lt ∙ ap (λ y. y ∷ drop (i + 1) xs) (sym is)
