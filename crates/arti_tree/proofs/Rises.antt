-- Rows whose keys rise: what is found among them, and how they are counted.
use Rattle.std.proofs.Common.{◌≡◌, ◌≢◌, ℕ, ◌+◌, ◌<◌, ◌≤◌, zero, suc, Bool, true, false, cond, eqb, List, [], ◌∷◌, length, get_or, take, drop, Option, Some, None, refl, sym, ap, ◌∙◌, subst, arith, Less}
use Rattle.std.specs.Prelude.{All}
use Rattle.std.specs.List.{insert, remove, find, count_by}
use Rattle.std.proofs.lemmas.List.Elements.{All-cons, All-nil, All-append, All-take, All-drop, All-weaker}
use Rattle.arti_rows.specs.Key.{key_cmp}
use Rattle.arti_tree.specs.Rows.{Row, row_of, RowsFrom}
use Rattle.arti_tree.specs.Kept.{Rising}
use Rattle.std.proofs.lemmas.List.{get_or_default}
use Rattle.std.proofs.lemmas.List.Sums.{sum_by-cons}
use Rattle.arti_rows.specs.KeyLaws.{key_cmp-irrefl}
use Rattle.std.proofs.lemmas.Bool.{eq-eqb, ne_eqb}

-- what is found passes
found_by : (b : Bool) (p : Row → Bool) (x r : Row) (rest : Option Row) → p x ≡ b → cond b (Some x) rest ≡ Some r → (rest ≡ Some r → p r ≡ true) → p r ≡ true
found_by true p x r rest is e more = let same : x ≡ r = cc in ap p (sym same) ∙ is
found_by false p x r rest is e more = more e

pub found_passes : (p : Row → Bool) (rows : List Row) (r : Row) → find p rows ≡ Some r → p r ≡ true
found_passes p [] r e = cc
found_passes p (x ∷ rows) r e = found_by (p x) p x r (find p rows) refl e (found_passes p rows r)

least_by : (b : Bool) (n : ℕ) (x r : Row) (rest : Option Row) → n ≤ x.id → cond b (Some x) rest ≡ Some r → (rest ≡ Some r → n ≤ r.id) → n ≤ r.id
least_by true n x r rest le e more = let same : x ≡ r = cc in omega (arith, ap (λ (y : Row). y.id) same)
least_by false n x r rest le e more = more e

pub found_least : (p : Row → Bool) (n : ℕ) (rows : List Row) (r : Row) → RowsFrom n rows → find p rows ≡ Some r → n ≤ r.id
found_least p n [] r up e = cc
found_least p n (x ∷ rows) r up e = least_by (p x) n x r (find p rows) up.0 e (λ more. omega (arith, up.0, found_least p (x.id + 1) rows r up.1 more))

live_by : (b : Bool) (x r : Row) (rest found : Option Row) → cond b (Some x) rest ≡ Some r → (rest ≡ Some r → (x.id + 1 ≤ r.id) × (found ≡ Some r)) → cond (eqb x.id r.id) (Some x) found ≡ Some r
live_by true x r rest found e more = let same : x ≡ r = cc in ap (λ t. cond t (Some x) found) (eq-eqb x.id r.id (ap (λ (y : Row). y.id) same)) ∙ e
live_by false x r rest found e more = let both = more e in ap (λ t. cond t (Some x) found) (ne_eqb x.id r.id (λ same. omega (arith, both.0))) ∙ both.1

-- what is found is live
pub found_live : (p : Row → Bool) (n : ℕ) (rows : List Row) (r : Row) → RowsFrom n rows → find p rows ≡ Some r → row_of rows r.id ≡ Some r
found_live p n [] r up e = cc
found_live p n (x ∷ rows) r up e =
    live_by (p x) x r (find p rows) (row_of rows r.id) e (λ more. (found_least p (x.id + 1) rows r up.1 more, found_live p (x.id + 1) rows r up.1 more))

-- where nothing passes, nothing is found
none_by : (b : Bool) (x : Row) (n : ℕ) (rest : Option Row) → cond b 1 0 + n ≡ 0 → (n ≡ 0 → rest ≡ None) → cond b (Some x) rest ≡ None
none_by true x n rest e more = absurd (omega arith)
none_by false x n rest e more = more (omega arith)

pub none_counted : (p : Row → Bool) (rows : List Row) → count_by p rows ≡ 0 → find p rows ≡ None
none_counted p [] e = refl
none_counted p (x ∷ rows) e = none_by (p x) x (count_by p rows) (find p rows) (sym (sum_by-cons (λ r. cond (p r) 1 0) x rows) ∙ e) (none_counted p rows)

-- those before a place pass, and those from there on don't
pub counted : (p : Row → Bool) (d : Row) (rows : List Row) (i : ℕ) → i ≤ length rows → ((k : ℕ) → k < i → p (get_or rows k d) ≡ true) → ((k : ℕ) → i ≤ k → k < length rows → p (get_or rows k d) ≡ false) → count_by p rows ≡ i
counted p d [] zero le before behind = refl
counted p d [] (suc i) le before behind = absurd (omega arith)
counted p d (x ∷ rows) zero le before behind =
    let rest = counted p d rows zero (omega arith) (λ k h. absurd (omega arith)) (λ k h g. behind (suc k) (omega arith) (omega arith)) in
    sum_by-cons (λ r. cond (p r) 1 0) x rows ∙ ap (λ b. cond b 1 0 + count_by p rows) (behind 0 (omega arith) (omega arith)) ∙ (let e : 0 + count_by p rows ≡ 0 = omega (arith, rest) in e)
counted p d (x ∷ rows) (suc i) le before behind =
    let rest = counted p d rows i (omega arith) (λ k h. before (suc k) (omega arith)) (λ k h g. behind (suc k) (omega arith) (omega arith)) in
    sum_by-cons (λ r. cond (p r) 1 0) x rows ∙ ap (λ b. cond b 1 0 + count_by p rows) (before 0 (omega arith)) ∙ (let e : 1 + count_by p rows ≡ suc i = omega (arith, rest) in e)

-- each key is less than those behind it
pub rising_far : (rows : List Row) (d : Row) → Rising rows → (i j : ℕ) → i < j → j < length rows → key_cmp (get_or rows i d).key (get_or rows j d).key ≡ Less
rising_far [] d up i j less below = absurd (omega arith)
rising_far (x ∷ rows) d up i zero less below = absurd (omega arith)
rising_far (x ∷ rows) d up zero (suc j) less below = up.0 j d (omega arith)
rising_far (x ∷ rows) d up (suc i) (suc j) less below = rising_far rows d up.1 i j (omega arith) (omega arith)

-- a row between the lesser and the greater ones
pub rising_insert : (r d : Row) (rows : List Row) (i : ℕ) → Rising rows → i ≤ length rows → ((k : ℕ) → k < i → key_cmp (get_or rows k d).key r.key ≡ Less) → ((k : ℕ) → i ≤ k → k < length rows → key_cmp r.key (get_or rows k d).key ≡ Less) → Rising (insert rows i r)
rising_insert r d [] zero up le before behind = (All-nil (λ (x : Row). key_cmp r.key x.key ≡ Less), tt)
rising_insert r d [] (suc i) up le before behind = absurd (omega arith)
rising_insert r d (x ∷ rows) zero up le before behind = (λ k e below. all_from k e below, up)
  where
    all_from : (k : ℕ) (e : Row) → k < length (x ∷ rows) → key_cmp r.key (get_or (x ∷ rows) k e).key ≡ Less
    all_from k e below = subst (λ (y : Row). key_cmp r.key y.key ≡ Less) (get_or_default (x ∷ rows) k d e below) (behind k (omega arith) below)
rising_insert r d (x ∷ rows) (suc i) up le before behind =
    let P : Row → Type 0 = λ y. key_cmp x.key y.key ≡ Less in (
      All-append P (take i rows) (r ∷ drop i rows) (All-take P i rows up.0) (All-cons P r (drop i rows) (before 0 (omega arith)) (All-drop P i rows up.0)),
      rising_insert r d rows i up.1 (omega arith) (λ k h. before (suc k) (omega arith)) (λ k h g. behind (suc k) (omega arith) (omega arith)),
    )

-- without one of them
pub rising_remove : (rows : List Row) (i : ℕ) → Rising rows → Rising (remove rows i)
rising_remove [] zero up = tt
rising_remove [] (suc i) up = tt
rising_remove (x ∷ rows) zero up = up.1
rising_remove (x ∷ rows) (suc i) up =
    let P : Row → Type 0 = λ y. key_cmp x.key y.key ≡ Less in
    (All-append P (take i rows) (drop (suc i) rows) (All-take P i rows up.0) (All-drop P (suc i) rows up.0), rising_remove rows i up.1)

-- the others have another key
pub others_differ : (r d : Row) (rows : List Row) (i : ℕ) → Rising rows → i < length rows → get_or rows i d ≡ r → All (λ x. x.key ≢ r.key) (remove rows i)
others_differ r d [] i up below is = absurd (omega arith)
others_differ r d (x ∷ rows) zero up below is = All-weaker (λ y. key_cmp x.key y.key ≡ Less) (λ y. y.key ≢ r.key) (λ y less e. key_cmp-irrefl x.key (ap (λ k. key_cmp x.key k) (ap (λ (z : Row). z.key) is ∙ sym e) ∙ less)) rows up.0
others_differ r d (x ∷ rows) (suc i) up below is =
    let P : Row → Type 0 = λ y. y.key ≢ r.key in
    All-cons P x (remove rows i) (λ e. key_cmp-irrefl x.key (ap (λ k. key_cmp x.key k) (e ∙ ap (λ (z : Row). z.key) (sym is)) ∙ up.0 i d (omega arith))) (others_differ r d rows i up.1 (omega arith) is)
