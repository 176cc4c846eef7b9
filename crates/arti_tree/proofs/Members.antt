-- Lists that ascend and have the same members are the same.
use Rattle.std.proofs.Common.{◌≡◌, ℕ, ◌+◌, ◌<◌, ◌≤◌, zero, suc, Bool, true, false, cond, eqb, List, [], ◌∷◌, Some, refl, sym, ap, ◌∙◌, subst, arith}
use Rattle.std.specs.Prelude.{◌||◌, ◌&&◌, ◌==◌, not, nat_lt}
use Rattle.std.specs.Option.{option_map_or}
use Rattle.std.specs.List.{filter}
use Rattle.std.proofs.lemmas.Bool.{eqb-true, eqb-false, eq-eqb, ne_eqb}
use Rattle.arti_tree.specs.Ids.{AscendFrom, Lacks, with_id, without_id}
use Rattle.arti_tree.specs.Renames.{has, Once}
use Rattle.arti_tree.specs.Shifts.{with_ids, without_ids, AreNew}
use Rattle.arti_tree.specs.Rows.{Row, ids, row_of, RowsFrom}
use Rattle.arti_tree.proofs.IdLists.{with_ascends}
use Rattle.arti_tree.proofs.RowLists.{lower_ids, none_below}

pub below_first : (n : ℕ) (xs : List ℕ) (i : ℕ) → AscendFrom n xs → i < n → has xs i ≡ false
below_first n [] i up less = refl
below_first n (x ∷ xs) i up less = ap (λ b. b || has xs i) (ne_eqb x i (λ e. omega (arith, up.0))) ∙ below_first (x + 1) xs i up.1 (omega (arith, up.0))

pub first_has : (x : ℕ) (xs : List ℕ) → has (x ∷ xs) x ≡ true
first_has x xs = ap (λ b. b || has xs x) (eq-eqb x x refl)

no_true : (b : Bool) → b ≡ false → b ≡ true → ⊥
no_true b e f = let no : false ≡ true = sym e ∙ f in cc

not_less : (n m x y : ℕ) (xs ys : List ℕ) → AscendFrom (y + 1) ys → ((i : ℕ) → has (x ∷ xs) i ≡ has (y ∷ ys) i) → x < y → ⊥
not_less n m x y xs ys up same less =
    let there : has (y ∷ ys) x ≡ true = sym (same x) ∙ first_has x xs in
    let absent : has (y ∷ ys) x ≡ false = ap (λ b. b || has ys x) (ne_eqb y x (λ e. omega arith)) ∙ below_first (y + 1) ys x up (omega arith) in
    no_true (has (y ∷ ys) x) absent there

rest_by : (b : Bool) (x i : ℕ) (xs ys : List ℕ) → eqb x i ≡ b → AscendFrom (x + 1) xs → AscendFrom (x + 1) ys → has (x ∷ xs) i ≡ has (x ∷ ys) i → has xs i ≡ has ys i
rest_by true x i xs ys is up to same = let e : x ≡ i = eqb-true x i is in below_first (x + 1) xs i up (omega arith) ∙ sym (below_first (x + 1) ys i to (omega arith))
rest_by false x i xs ys is up to same = sym (ap (λ b. b || has xs i) is) ∙ same ∙ ap (λ b. b || has ys i) is

same_rest : (x y : ℕ) (xs ys : List ℕ) → x ≡ y → AscendFrom (x + 1) xs → AscendFrom (y + 1) ys → ((i : ℕ) → has (x ∷ xs) i ≡ has (y ∷ ys) i) → (i : ℕ) → has xs i ≡ has ys i
same_rest x y xs ys e up to same i =
    rest_by (eqb x i) x i xs ys refl up (subst (λ (n : ℕ). AscendFrom (n + 1) ys) (sym e) to) (same i ∙ ap (λ (n : ℕ). has (n ∷ ys) i) (sym e))

pub same_members : (n m : ℕ) (xs ys : List ℕ) → AscendFrom n xs → AscendFrom m ys → ((i : ℕ) → has xs i ≡ has ys i) → xs ≡ ys
same_members n m [] [] up to same = refl
same_members n m [] (y ∷ ys) up to same = absurd (no_true (has (y ∷ ys) y) (sym (same y)) (first_has y ys))
same_members n m (x ∷ xs) [] up to same = absurd (no_true (has (x ∷ xs) x) (same x) (first_has x xs))
same_members n m (x ∷ xs) (y ∷ ys) up to same =
    let one : x ≡ y = order_same x y (not_less n m x y xs ys to.1 same) (not_less n m y x ys xs up.1 (λ i. sym (same i))) in
    ap (λ (k : ℕ). k ∷ xs) one ∙ ap (λ (l : List ℕ). y ∷ l) (same_members (x + 1) (y + 1) xs ys up.1 to.1 (same_rest x y xs ys one up.1 to.1 same))
  where
    order_same : (a b : ℕ) → (a < b → ⊥) → (b < a → ⊥) → a ≡ b
    order_same a b f g = omega arith

or_swap : (a b c : Bool) → a || (b || c) ≡ b || (a || c)
or_swap true true c = refl
or_swap true false c = refl
or_swap false b c = refl

with_by : (t : Bool) (id x i : ℕ) (xs w : List ℕ) → has w i ≡ ((id == i) || has xs i) → has (cond t (id ∷ x ∷ xs) (x ∷ w)) i ≡ ((id == i) || has (x ∷ xs) i)
with_by true id x i xs w e = refl
with_by false id x i xs w e = ap (λ b. (x == i) || b) e ∙ or_swap (x == i) (id == i) (has xs i)

pub has_with : (id : ℕ) (xs : List ℕ) (i : ℕ) → has (with_id id xs) i ≡ ((id == i) || has xs i)
has_with id [] i = refl
has_with id (x ∷ xs) i = with_by (nat_lt id x) id x i xs (with_id id xs) (has_with id xs i)

without_by : (t b : Bool) (x id i : ℕ) (xs : List ℕ) (r : Bool) → eqb x id ≡ t → eqb id i ≡ b → r ≡ (not b && has xs i) → (cond (not t) ((x == i) || r) r) ≡ (not b && ((x == i) || has xs i))
without_by true true x id i xs r is at e = e
without_by true false x id i xs r is at e =
    let other : eqb x i ≡ false = ap (λ (n : ℕ). eqb n i) (eqb-true x id is) ∙ at in
    e ∙ sym (ap (λ b. b || has xs i) other)
without_by false true x id i xs r is at e =
    let other : eqb x i ≡ false = ap (λ (n : ℕ). eqb x n) (sym (eqb-true id i at)) ∙ is in
    ap (λ b. b || r) other ∙ e
without_by false false x id i xs r is at e = ap (λ b. (x == i) || b) e

has_cond : (t : Bool) (x i : ℕ) (w : List ℕ) → has (cond t (x ∷ w) w) i ≡ cond t ((x == i) || has w i) (has w i)
has_cond true x i w = refl
has_cond false x i w = refl

pub has_without : (id : ℕ) (xs : List ℕ) (i : ℕ) → has (without_id id xs) i ≡ (not (id == i) && has xs i)
has_without id [] i = by (id == i)
  where
    by : (b : Bool) → false ≡ (not b && false)
    by true = refl
    by false = refl
has_without id (x ∷ xs) i =
    has_cond (not (eqb x id)) x i (without_id id xs) ∙ without_by (eqb x id) (eqb id i) x id i xs (has (without_id id xs) i) refl refl (has_without id xs i)

pub has_with_ids : (ids xs : List ℕ) (i : ℕ) → has (with_ids ids xs) i ≡ (has ids i || has xs i)
has_with_ids [] xs i = refl
has_with_ids (id ∷ ids) xs i = has_with_ids ids (with_id id xs) i ∙ ap (λ b. has ids i || b) (has_with id xs i) ∙ by (has ids i) (id == i) (has xs i)
  where
    by : (a b c : Bool) → a || (b || c) ≡ (b || a) || c
    by true true c = refl
    by true false c = refl
    by false true c = refl
    by false false c = refl

pub has_without_ids : (ids xs : List ℕ) (i : ℕ) → has (without_ids ids xs) i ≡ (not (has ids i) && has xs i)
has_without_ids [] xs i = refl
has_without_ids (id ∷ ids) xs i = has_without_ids ids (without_id id xs) i ∙ ap (λ b. not (has ids i) && b) (has_without id xs i) ∙ by (has ids i) (id == i) (has xs i)
  where
    by : (a b c : Bool) → (not a && (not b && c)) ≡ (not (b || a) && c)
    by true true c = refl
    by true false c = refl
    by false true c = refl
    by false false c = refl

without_up_by : (b : Bool) (n x : ℕ) (w : List ℕ) → n ≤ x → AscendFrom (x + 1) w → AscendFrom n (cond b (x ∷ w) w)
without_up_by true n x w le up = (le, up)
without_up_by false n x w le up = lower_ids (x + 1) n w (omega arith) up

pub without_ascends : (n id : ℕ) (xs : List ℕ) → AscendFrom n xs → AscendFrom n (without_id id xs)
without_ascends n id [] up = tt
without_ascends n id (x ∷ xs) up = without_up_by (not (eqb x id)) n x (without_id id xs) up.0 (without_ascends (x + 1) id xs up.1)

pub without_ids_ascend : (ids xs : List ℕ) → AscendFrom 0 xs → AscendFrom 0 (without_ids ids xs)
without_ids_ascend [] xs up = up
without_ids_ascend (id ∷ ids) xs up = without_ids_ascend ids (without_id id xs) (without_ascends 0 id xs up)

pub with_ids_ascend : (ids xs : List ℕ) → AscendFrom 0 xs → AreNew xs ids → AscendFrom 0 (with_ids ids xs)
with_ids_ascend [] xs up new = up
with_ids_ascend (id ∷ ids) xs up new = with_ids_ascend ids (with_id id xs) (with_ascends 0 id xs (omega arith) up new.0) new.1

lacks_none : (id : ℕ) (xs : List ℕ) → has xs id ≡ false → Lacks xs id
lacks_none id [] e k below = absurd (omega arith)
lacks_none id (x ∷ xs) e zero below = eqb-false x id (or_left (x == id) (has xs id) e)
  where
    or_left : (a b : Bool) → (a || b) ≡ false → a ≡ false
    or_left true b e = cc
    or_left false b e = refl
lacks_none id (x ∷ xs) e (suc k) below = lacks_none id xs (or_right (x == id) (has xs id) e) k (omega arith)
  where
    or_right : (a b : Bool) → (a || b) ≡ false → b ≡ false
    or_right true b e = cc
    or_right false b e = e

pub lacks_from : (xs : List ℕ) (id : ℕ) → has xs id ≡ false → Lacks xs id
lacks_from xs id e = lacks_none id xs e

pub once : (n : ℕ) (xs : List ℕ) → AscendFrom n xs → Once xs
once n [] up = tt
once n (x ∷ xs) up = (below_first (x + 1) xs x up.1 (omega arith), once (x + 1) xs up.1)

pub false_true : (b : Bool) → b ≡ false → b ≡ true → ⊥
false_true b e f = let never : false ≡ true = sym e ∙ f in cc

later : (a b : Bool) → b ≡ true → (a || b) ≡ true
later true b e = refl
later false b e = e

-- ids that differ and of which the list has none are new to it
pub are_new : (ids xs : List ℕ) → Once ids → ((i : ℕ) → has ids i ≡ true → has xs i ≡ false) → AreNew xs ids
are_new [] xs once none = tt
are_new (id ∷ ids) xs once none = (
  lacks_from xs id (none id (first_has id ids)),
  are_new ids (with_id id xs) once.1 (λ i there.
      has_with id xs i ∙ ap (λ b. b || has xs i) (ne_eqb id i (λ e. false_true (has ids id) once.0 (subst (λ (k : ℕ). has ids k ≡ true) (sym e) there))) ∙ none i (later (id == i) (has ids i) there)),
)

-- the ids of the rows that pass
rows_by : (b t : Bool) (p : Row → Bool) (x : Row) (rows : List Row) (i : ℕ) → eqb x.id i ≡ b → p x ≡ t → RowsFrom (x.id + 1) rows → has (ids (filter p rows)) i ≡ option_map_or p (row_of rows i) false
    → has (ids (cond t (x ∷ filter p rows) (filter p rows))) i ≡ option_map_or p (cond b (Some x) (row_of rows i)) false
rows_by true true p x rows i is holds up e = ap (λ b. b || has (ids (filter p rows)) i) is ∙ sym holds
rows_by true false p x rows i is fails up e =
    let at : x.id ≡ i = eqb-true x.id i is in
    e ∙ ap (λ o. option_map_or p o false) (none_below (x.id + 1) rows i up (omega arith)) ∙ sym fails
rows_by false true p x rows i is holds up e = ap (λ b. b || has (ids (filter p rows)) i) is ∙ e
rows_by false false p x rows i is fails up e = e

pub has_rows : (p : Row → Bool) (n : ℕ) (rows : List Row) (i : ℕ) → RowsFrom n rows → has (ids (filter p rows)) i ≡ option_map_or p (row_of rows i) false
has_rows p n [] i up = refl
has_rows p n (x ∷ rows) i up = rows_by (eqb x.id i) (p x) p x rows i refl refl up.1 (has_rows p (x.id + 1) rows i up.1)
