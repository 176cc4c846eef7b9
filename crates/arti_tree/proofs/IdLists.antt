-- Lists of ids that ascend.
use Rattle.std.proofs.Common.{◌≡◌, ◌≢◌, ℕ, ◌+◌, ◌-◌, ◌<◌, ◌≤◌, ◌⊎◌, ⊎_elim, inl, inr, zero, suc, Bool, true, false, cond, List, [], ◌∷◌, length, get_or, refl, sym, ap, ◌∙◌, arith}
use Rattle.std.specs.Prelude.{nat_lt, not}
use Rattle.std.specs.List.{insert, remove}
use Rattle.std.proofs.lemmas.Bool.{ne_eqb, cases_lt, ltb-true, ltb-false, lt-ltb, le-ltb, eq-eqb}
use Rattle.arti_tree.specs.Ids.{AscendFrom, IsGap, IsNext, Lacks, with_id, without_id}

zero_or : (n : ℕ) → (n ≡ 0) ⊎ (0 < n)
zero_or zero = inl refl
zero_or (suc n) = inr (omega arith)

-- none is below the first
pub least : (n : ℕ) (xs : List ℕ) → AscendFrom n xs → (i : ℕ) → i < length xs → n ≤ get_or xs i 0
least n [] up i below = absurd (omega arith)
least n (x ∷ xs) up zero below = up.0
least n (x ∷ xs) up (suc i) below = omega (arith, up.0, least (x + 1) xs up.1 i (omega arith))

-- each is below those behind it
pub rises : (n : ℕ) (xs : List ℕ) → AscendFrom n xs → (i j : ℕ) → i < j → j < length xs → get_or xs i 0 < get_or xs j 0
rises n [] up i j less below = absurd (omega arith)
rises n (x ∷ xs) up i zero less below = absurd (omega arith)
rises n (x ∷ xs) up zero (suc j) less below = omega (arith, least (x + 1) xs up.1 j (omega arith))
rises n (x ∷ xs) up (suc i) (suc j) less below = rises (x + 1) xs up.1 i j (omega arith) (omega arith)

pub rises_or_same : (n : ℕ) (xs : List ℕ) → AscendFrom n xs → (i j : ℕ) → i ≤ j → j < length xs → get_or xs i 0 ≤ get_or xs j 0
rises_or_same n [] up i j less below = absurd (omega arith)
rises_or_same n (x ∷ xs) up zero zero less below = omega arith
rises_or_same n (x ∷ xs) up (suc i) zero less below = absurd (omega arith)
rises_or_same n (x ∷ xs) up zero (suc j) less below = omega (arith, least (x + 1) xs up.1 j (omega arith))
rises_or_same n (x ∷ xs) up (suc i) (suc j) less below = rises_or_same (x + 1) xs up.1 i j (omega arith) (omega arith)

-- each is as far from the start as its place at least
pub far : (n : ℕ) (xs : List ℕ) → AscendFrom n xs → (i : ℕ) → i < length xs → n + i ≤ get_or xs i 0
far n [] up i below = absurd (omega arith)
far n (x ∷ xs) up zero below = omega (arith, up.0)
far n (x ∷ xs) up (suc i) below = omega (arith, up.0, far (x + 1) xs up.1 i (omega arith))

-- two are as far from each other as their places at least
pub spread : (n : ℕ) (xs : List ℕ) → AscendFrom n xs → (i j : ℕ) → i ≤ j → j < length xs → get_or xs i 0 + j ≤ get_or xs j 0 + i
spread n [] up i j le below = absurd (omega arith)
spread n (x ∷ xs) up zero zero le below = omega arith
spread n (x ∷ xs) up (suc i) zero le below = absurd (omega arith)
spread n (x ∷ xs) up zero (suc j) le below = omega (arith, far (x + 1) xs up.1 j (omega arith))
spread n (x ∷ xs) up (suc i) (suc j) le below = omega (arith, spread (x + 1) xs up.1 i j (omega arith) (omega arith))

-- an insert between the lesser and the greater ones
pub insert_at : (id : ℕ) (xs : List ℕ) (i : ℕ) → i ≤ length xs → ((k : ℕ) → k < i → get_or xs k 0 < id) → ((k : ℕ) → i ≤ k → k < length xs → id < get_or xs k 0) → insert xs i id ≡ with_id id xs
insert_at id [] zero le before behind = refl
insert_at id [] (suc i) le before behind = absurd (omega arith)
insert_at id (x ∷ xs) zero le before behind = sym (ap (λ b. cond b (id ∷ x ∷ xs) (x ∷ with_id id xs)) (lt-ltb id x (behind 0 (omega arith) (omega arith))))
insert_at id (x ∷ xs) (suc i) le before behind =
    ap (λ l. x ∷ l) (insert_at id xs i (omega arith) (λ k h. before (suc k) (omega arith)) (λ k h g. behind (suc k) (omega arith) (omega arith)))
    ∙ sym (ap (λ b. cond b (id ∷ x ∷ xs) (x ∷ with_id id xs)) (le-ltb id x (let h = before 0 (omega arith) in omega arith)))

-- where all are greater, none is left out
pub keeps : (id n : ℕ) (xs : List ℕ) → AscendFrom n xs → id < n → without_id id xs ≡ xs
keeps id n [] up less = refl
keeps id n (x ∷ xs) up less =
    ap (λ b. cond (not b) (x ∷ without_id id xs) (without_id id xs)) (ne_eqb x id (λ e. omega (arith, up.0))) ∙ ap (λ l. x ∷ l) (keeps id (x + 1) xs up.1 (omega (arith, up.0)))

pub remove_at : (id n : ℕ) (xs : List ℕ) (i : ℕ) → AscendFrom n xs → i < length xs → get_or xs i 0 ≡ id → remove xs i ≡ without_id id xs
remove_at id n [] i up below is = absurd (omega arith)
remove_at id n (x ∷ xs) zero up below is =
    sym (ap (λ b. cond (not b) (x ∷ without_id id xs) (without_id id xs)) (eq-eqb x id is) ∙ keeps id (x + 1) xs up.1 (omega (arith, is)))
remove_at id n (x ∷ xs) (suc i) up below is =
    ap (λ l. x ∷ l) (remove_at id (x + 1) xs i up.1 (omega arith) is)
    ∙ sym (ap (λ b. cond (not b) (x ∷ without_id id xs) (without_id id xs)) (ne_eqb x id (λ e. omega (arith, least (x + 1) xs up.1 i (omega arith), is))))

-- an id that isn't there leaves the list
pub lacking : (id : ℕ) (xs : List ℕ) → Lacks xs id → without_id id xs ≡ xs
lacking id [] lacks = refl
lacking id (x ∷ xs) lacks =
    ap (λ b. cond (not b) (x ∷ without_id id xs) (without_id id xs)) (ne_eqb x id (lacks 0 (omega arith))) ∙ ap (λ l. x ∷ l) (lacking id xs (λ k h. lacks (suc k) (omega arith)))

pub insert_gap : (id : ℕ) (xs : List ℕ) (i : ℕ) → IsGap xs id i → insert xs i id ≡ with_id id xs
insert_gap id xs i gap = insert_at id xs i gap.within gap.before gap.behind

pub gap_lacks : (id : ℕ) (xs : List ℕ) (i : ℕ) → IsGap xs id i → Lacks xs id
gap_lacks id xs i gap k below is = ⊎_elim (λ (l : k < i). omega (arith, gap.before k l)) (λ (l : i ≤ k). omega (arith, gap.behind k l below)) (cases_lt k i)

with_by : (b : Bool) (n id x : ℕ) (xs w : List ℕ) → nat_lt id x ≡ b → n ≤ id → AscendFrom n (x ∷ xs) → x ≢ id → (x + 1 ≤ id → AscendFrom (x + 1) w) → AscendFrom n (cond b (id ∷ x ∷ xs) (x ∷ w))
with_by true n id x xs w is le up ne rest = (le, (omega (arith, ltb-true id x is), up.1))
with_by false n id x xs w is le up ne rest = (up.0, rest (let h = ltb-false id x is in omega arith))

-- with an id more they ascend
pub with_ascends : (n id : ℕ) (xs : List ℕ) → n ≤ id → AscendFrom n xs → Lacks xs id → AscendFrom n (with_id id xs)
with_ascends n id [] le up lacks = (le, tt)
with_ascends n id (x ∷ xs) le up lacks =
    with_by (nat_lt id x) n id x xs (with_id id xs) refl le up (lacks 0 (omega arith)) (λ more. with_ascends (x + 1) id xs more up.1 (λ k h. lacks (suc k) (omega arith)))

undone_by : (b : Bool) (id x : ℕ) (xs w : List ℕ) → x ≢ id → without_id id xs ≡ xs → without_id id w ≡ xs → without_id id (cond b (id ∷ x ∷ xs) (x ∷ w)) ≡ x ∷ xs
undone_by true id x xs w ne kept same =
    ap (λ b. cond (not b) (id ∷ without_id id (x ∷ xs)) (without_id id (x ∷ xs))) (eq-eqb id id refl)
    ∙ ap (λ b. cond (not b) (x ∷ without_id id xs) (without_id id xs)) (ne_eqb x id ne) ∙ ap (λ l. x ∷ l) kept
undone_by false id x xs w ne kept same = ap (λ b. cond (not b) (x ∷ without_id id w) (without_id id w)) (ne_eqb x id ne) ∙ ap (λ l. x ∷ l) same

-- an id that is added and dropped
pub undone : (id : ℕ) (xs : List ℕ) → Lacks xs id → without_id id (with_id id xs) ≡ xs
undone id [] lacks = ap (λ b. cond (not b) (id ∷ []) []) (eq-eqb id id refl)
undone id (x ∷ xs) lacks =
    let rest : Lacks xs id = λ k h. lacks (suc k) (omega arith) in
    undone_by (nat_lt id x) id x xs (with_id id xs) (lacks 0 (omega arith)) (lacking id xs rest) (undone id xs rest)

-- the first id
pub first_next : (xs : List ℕ) → length xs ≡ 0 → IsNext xs 0
first_next xs none = record {
  place = 0;
  gap = record { within = omega arith; before = λ k h. absurd (omega arith); behind = λ k le below. absurd (omega (arith, none)) };
  run = λ k le below. absurd (omega (arith, none));
  dense = λ e. e;
}

-- the id behind all, where they leave none out
pub last_next : (xs : List ℕ) → AscendFrom 0 xs → 0 < length xs → get_or xs (length xs - 1) 0 ≡ length xs - 1 → IsNext xs (length xs)
last_next xs up some is = record {
  place = length xs;
  gap = record {
    within = omega arith;
    before = λ k h. omega (arith, some, is, spread 0 xs up k (length xs - 1) (omega (arith, h)) (omega (arith, some)));
    behind = λ k le below. absurd (omega (arith, le, below));
  };
  run = λ k le below. absurd (omega (arith, le, below));
  dense = λ e. refl;
}

-- the id before those that follow one another
pub run_next : (xs : List ℕ) (p id : ℕ) → AscendFrom 0 xs → p < length xs → get_or xs (length xs - 1) 0 + p ≤ get_or xs p 0 + (length xs - 1)
    → (p ≡ 0) ⊎ (get_or xs (p - 1) 0 + (length xs - 1) < get_or xs (length xs - 1) 0 + (p - 1)) → get_or xs p 0 ≡ id + 1 → IsNext xs id
run_next xs p id up within run before is = record {
  place = p;
  gap = record {
    within = omega (arith, within);
    before = λ k h. ⊎_elim (λ (z : p ≡ 0). absurd (omega (arith, h, z))) (λ (b : get_or xs (p - 1) 0 + (length xs - 1) < get_or xs (length xs - 1) 0 + (p - 1)). omega (arith, h, b, run, is, within, rises_or_same 0 xs up k (p - 1) (omega (arith, h)) (omega (arith, within)))) before;
    behind = λ k le below. omega (arith, is, rises_or_same 0 xs up p k le below);
  };
  run = λ k le below. omega (arith, is, run, within, le, below, spread 0 xs up p k le below, spread 0 xs up k (length xs - 1) (omega (arith, below)) (omega (arith, within)));
  dense = λ e. absurd (omega (arith, e, within));
}

pub next_lacks : (xs : List ℕ) (id : ℕ) → IsNext xs id → Lacks xs id
next_lacks xs id next = gap_lacks id xs next.place next.gap

-- where the last isn't at its own place, none of those that follow one another up to it is
pub above : (xs : List ℕ) (p : ℕ) → AscendFrom 0 xs → 0 < length xs → get_or xs (length xs - 1) 0 ≢ length xs - 1 → get_or xs (length xs - 1) 0 + p ≤ get_or xs p 0 + (length xs - 1) → 1 ≤ get_or xs p 0
above xs p up some more run =
    let le : 0 + (length xs - 1) ≤ get_or xs (length xs - 1) 0 = far 0 xs up (length xs - 1) (omega (arith, some)) in
    ⊎_elim (λ (l : length xs - 1 < get_or xs (length xs - 1) 0). omega (arith, l, run)) (λ (g : get_or xs (length xs - 1) 0 ≤ length xs - 1). absurd (more (omega (arith, le, g)))) (cases_lt (length xs - 1) (get_or xs (length xs - 1) 0))
