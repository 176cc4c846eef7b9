-- The names of a domain, one more at a time.
use Rattle.std.proofs.Common.{◌≡◌, ℕ, zero, suc, ◌+◌, ◌<◌, List, [], ◌∷◌, ◌++◌, length, get_or, take, refl, sym, ap, ◌∙◌, arith, append_assoc}
use Rattle.std.proofs.lemmas.List.{take_more}
use Rattle.arti_aql_parse.specs.Grammar.{joined}

joined_push : (x : List ℕ) (xs : List (List ℕ)) (y : List ℕ) → joined ((x ∷ xs) ++ y ∷ []) ≡ joined (x ∷ xs) ++ 46 ∷ y
joined_push x [] y = refl
joined_push x (z ∷ zs) y = ap (λ l. x ++ 46 ∷ l) (joined_push z zs y) ∙ sym (append_assoc x (46 ∷ joined (z ∷ zs)) (46 ∷ y))

-- the first name stands alone
pub joined_first : (xs : List (List ℕ)) (i : ℕ) (y bytes : List ℕ) → i < length xs → i ≡ 0 → y ≡ get_or xs i y → bytes ≡ joined (take i xs) → bytes ++ y ≡ joined (take (i + 1) xs)
joined_first xs i y bytes lt none is front =
    let some : take i xs ≡ [] = ap (λ k. take k xs) none in
    ap (λ l. l ++ y) (front ∙ ap joined some) ∙ sym (ap joined (take_more xs i y lt ∙ ap (λ l. l ++ get_or xs i y ∷ []) some) ∙ sym is)

-- each later one stands behind a dot
pub joined_next : (xs : List (List ℕ)) (i : ℕ) (y bytes : List ℕ) → i < length xs → 0 < i → y ≡ get_or xs i y → bytes ≡ joined (take i xs) → (bytes ++ 46 ∷ []) ++ y ≡ joined (take (i + 1) xs)
joined_next [] i y bytes lt some is front = absurd (omega arith)
joined_next (x ∷ xs) zero y bytes lt some is front = absurd (omega arith)
joined_next (x ∷ xs) (suc i) y bytes lt some is front =
    let less : i < length xs = omega arith in
    let more : take (suc i + 1) (x ∷ xs) ≡ (x ∷ take i xs) ++ y ∷ [] = take_more (x ∷ xs) (suc i) y lt ∙ ap (λ v. (x ∷ take i xs) ++ v ∷ []) (sym is) in
    append_assoc bytes (46 ∷ []) y ∙ ap (λ l. l ++ 46 ∷ y) front ∙ sym (joined_push x (take i xs) y) ∙ ap joined (sym more)
