-- Line ends before a head, passed over as they come.
use Rattle.std.proofs.Common.{◌≡◌, ◌≢◌, ℕ, zero, suc, ◌+◌, ◌-◌, ◌<◌, ◌≤◌, ◌⊎◌, ⊎_elim, inl, inr, Bool, true, false, cond, List, [], ◌∷◌, ◌++◌, length, take, drop, refl, sym, ap, ◌∙◌, subst, arith}
use Rattle.std.specs.Prelude.{take_while}
use Rattle.std.specs.List.{prefix_len}
use Rattle.std.proofs.lemmas.Bool.{cases_Bool}
use Rattle.std.proofs.lemmas.List.Sums.{prefix_len-le-length}
use Rattle.std.proofs.lemmas.List.{length-take-le, length-take}
use Rattle.arti_model.specs.Requests.{is_line_byte, skip}

-- how many line ends stand at the front, of the first `most` bytes
abbrev Ends : ℕ → List ℕ → ℕ
Ends most bytes = prefix_len is_line_byte (take most bytes)

pub ends_is : (most : ℕ) (bytes : List ℕ) → length (take_while is_line_byte (take most bytes)) ≡ Ends most bytes
ends_is most bytes = length-take-le (Ends most bytes) (take most bytes) (prefix_len-le-length is_line_byte (take most bytes))

skip_is : (most : ℕ) (bytes : List ℕ) → skip most bytes ≡ drop (Ends most bytes) bytes
skip_is most bytes = ap (λ n. drop n bytes) (ends_is most bytes)

abbrev Rest : ℕ → List ℕ → List ℕ
Rest most bytes = drop (Ends most bytes) bytes

one_more : (n : ℕ) → 1 + n ≡ suc n
one_more n = omega arith

ends_yes : (most b : ℕ) (bytes : List ℕ) → is_line_byte b ≡ true → Ends (suc most) (b ∷ bytes) ≡ suc (Ends most bytes)
ends_yes most b bytes is = rw is (one_more (Ends most bytes))

ends_no : (most b : ℕ) (bytes : List ℕ) → is_line_byte b ≡ false → Ends (suc most) (b ∷ bytes) ≡ 0
ends_no most b bytes not = rw not refl

-- what is left to be passed over, after those that stand in the first bytes
rest_part : (most : ℕ) (bytes more : List ℕ) → Rest most (bytes ++ more) ≡ Rest (most - Ends most bytes) (drop (Ends most bytes) bytes ++ more)
rest_part zero bytes more = refl
rest_part (suc most) [] more = let same : suc most ≡ suc most - 0 = omega arith in ap (λ m. Rest m more) same
rest_part (suc most) (b ∷ bytes) more =
    ⊎_elim (λ (is : is_line_byte b ≡ true).
    let fewer : suc most - suc (Ends most bytes) ≡ most - Ends most bytes = omega arith in
    ap (λ n. drop n (b ∷ bytes ++ more)) (ends_yes most b (bytes ++ more) is)
    ∙ rest_part most bytes more
    ∙ sym (ap (λ n. Rest (suc most - n) (drop n (b ∷ bytes) ++ more)) (ends_yes most b bytes is) ∙ ap (λ m. Rest m (drop (Ends most bytes) bytes ++ more)) fewer))
    (λ (not : is_line_byte b ≡ false).
    let same : suc most - 0 ≡ suc most = omega arith in
    sym (ap (λ n. Rest (suc most - n) (drop n (b ∷ bytes) ++ more)) (ends_no most b bytes not) ∙ ap (λ m. Rest m (b ∷ bytes ++ more)) same))
    (cases_Bool (is_line_byte b))

-- where a byte is left, nothing more is passed over
rest_stays : (most : ℕ) (bytes more : List ℕ) → Ends most bytes < length bytes
    → Rest (most - Ends most bytes) (drop (Ends most bytes) bytes ++ more) ≡ drop (Ends most bytes) bytes ++ more
rest_stays zero bytes more left = refl
rest_stays (suc most) [] more left = absurd (omega arith)
rest_stays (suc most) (b ∷ bytes) more left =
    ⊎_elim (λ (is : is_line_byte b ≡ true).
    let n = Ends most bytes in
    let fewer : suc most - suc n ≡ most - n = omega arith in
    let left' : n < length bytes = omega (arith, ends_yes most b bytes is) in
    ap (λ m. Rest (suc most - m) (drop m (b ∷ bytes) ++ more)) (ends_yes most b bytes is)
    ∙ ap (λ m. Rest m (drop n bytes ++ more)) fewer
    ∙ rest_stays most bytes more left'
    ∙ sym (ap (λ m. drop m (b ∷ bytes) ++ more) (ends_yes most b bytes is)))
    (λ (not : is_line_byte b ≡ false).
    let same : suc most - 0 ≡ suc most = omega arith in
    ap (λ m. Rest (suc most - m) (drop m (b ∷ bytes) ++ more)) (ends_no most b bytes not)
    ∙ ap (λ m. Rest m (b ∷ bytes ++ more)) same
    ∙ ap (λ n. drop n (b ∷ bytes ++ more)) (ends_no most b (bytes ++ more) not)
    ∙ sym (ap (λ m. drop m (b ∷ bytes) ++ more) (ends_no most b bytes not)))
    (cases_Bool (is_line_byte b))

-- the same of what was counted
pub skip_part : (most n : ℕ) (bytes more : List ℕ) → n ≡ length (take_while is_line_byte (take most bytes))
    → skip most (bytes ++ more) ≡ skip (most - n) (drop n bytes ++ more)
skip_part most n bytes more is =
    let ends : n ≡ Ends most bytes = is ∙ ends_is most bytes in
    skip_is most (bytes ++ more)
    ∙ rest_part most bytes more
    ∙ sym (skip_is (most - n) (drop n bytes ++ more) ∙ ap (λ m. Rest (most - m) (drop m bytes ++ more)) ends)

pub skip_done : (most n : ℕ) (bytes more : List ℕ) → n ≡ length (take_while is_line_byte (take most bytes)) → n < length bytes
    → skip most (bytes ++ more) ≡ drop n bytes ++ more
skip_done most n bytes more is left =
    let ends : n ≡ Ends most bytes = is ∙ ends_is most bytes in
    let left' : Ends most bytes < length bytes = omega (arith, ends) in
    skip_is most (bytes ++ more)
    ∙ rest_part most bytes more
    ∙ rest_stays most bytes more left'
    ∙ sym (ap (λ m. drop m bytes ++ more) ends)

-- no more are counted than may be, nor than stand there
pub ends_bound : (most n : ℕ) (bytes : List ℕ) → n ≡ length (take_while is_line_byte (take most bytes)) → (n ≤ most) × (n ≤ length bytes)
ends_bound most n bytes is =
    let ends : n ≡ Ends most bytes = is ∙ ends_is most bytes in
    let short = prefix_len-le-length is_line_byte (take most bytes) in
    (omega (arith, ends, short, length-take most bytes), omega (arith, ends, short, length-take most bytes))
