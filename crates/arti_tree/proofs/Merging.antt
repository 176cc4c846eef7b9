-- Lists of ids that ascend: what one leaves of the other, and the two as one.
use Rattle.std.proofs.Common.{◌≡◌, ◌≢◌, ℕ, ◌+◌, ◌<◌, ◌≤◌, suc, Bool, true, false, cond, List, [], ◌∷◌, ◌++◌, length, take, drop, refl, sym, ap, ◌∙◌, arith, ⊎_elim}
use Rattle.std.specs.Prelude.{◌||◌, ◌&&◌, ◌==◌, not, nat_lt}
use Rattle.std.proofs.lemmas.Bool.{eqb-true, eqb-false, eq-eqb, ne_eqb, ltb-true, ltb-false, false_from_ne_true, cases_Bool}
use Rattle.std.proofs.lemmas.List.{take-append-drop}
use Rattle.arti_tree.specs.Ids.{AscendFrom, Lacks, with_id}
use Rattle.arti_tree.specs.Renames.{has}
use Rattle.arti_tree.specs.Shifts.{lead, begins, left_by, merge, with_ids, without_ids, AreNew}
use Rattle.arti_tree.proofs.RowLists.{lower_ids}
use Rattle.arti_tree.proofs.Members.{below_first, first_has, same_members, has_with, has_with_ids, has_without_ids, with_ids_ascend, without_ids_ascend, false_true}
use Rattle.arti_tree.proofs.Finding.{has_append, place_of_id}

-- ---- the ids at the front that are less

step_by : (b : Bool) (n : ℕ) (y : ℕ) (ys : List ℕ) → n ≤ length ys → cond b (suc n) 0 ≤ length (y ∷ ys)
step_by true n y ys le = omega (arith, le)
step_by false n y ys le = omega arith

pub lead_within : (x : ℕ) (ys : List ℕ) → lead x ys ≤ length ys
lead_within x [] = omega arith
lead_within x (y ∷ ys) = step_by (nat_lt y x) (lead x ys) y ys (lead_within x ys)

behind_by : (b : Bool) (a n y : ℕ) (ys : List ℕ) → AscendFrom a (y ∷ ys) → AscendFrom (y + 1) (drop n ys) → AscendFrom a (drop (cond b (suc n) 0) (y ∷ ys))
behind_by true a n y ys up more = lower_ids (y + 1) a (drop n ys) (omega (arith, up.0)) more
behind_by false a n y ys up more = up

behind_ascends : (a x : ℕ) (ys : List ℕ) → AscendFrom a ys → AscendFrom a (drop (lead x ys) ys)
behind_ascends a x [] up = tt
behind_ascends a x (y ∷ ys) up = behind_by (nat_lt y x) a (lead x ys) y ys up (behind_ascends (y + 1) x ys up.1)

or_none : (b : Bool) → b || false ≡ b
or_none true = refl
or_none false = refl

begins_by : (b : Bool) (a x y : ℕ) (ys : List ℕ) → nat_lt y x ≡ b → AscendFrom a (y ∷ ys) → has ys x ≡ begins x (drop (lead x ys) ys) → has (y ∷ ys) x ≡ begins x (drop (cond b (suc (lead x ys)) 0) (y ∷ ys))
begins_by true a x y ys is up e = ap (λ t. t || has ys x) (ne_eqb y x (λ same. omega (arith, same, ltb-true y x is))) ∙ e
begins_by false a x y ys is up e = ap (λ t. (y == x) || t) (below_first (y + 1) ys x up.1 (let le = ltb-false y x is in omega arith)) ∙ or_none (y == x)

-- an id is among the others where they begin with it
begins_has : (a x : ℕ) (ys : List ℕ) → AscendFrom a ys → has ys x ≡ begins x (drop (lead x ys) ys)
begins_has a x [] up = refl
begins_has a x (y ∷ ys) up = begins_by (nat_lt y x) a x y ys refl up (begins_has (y + 1) x ys up.1)

above_by : (b : Bool) (x i y n : ℕ) (ys : List ℕ) → nat_lt y x ≡ b → x < i → has ys i ≡ has (drop n ys) i → has (y ∷ ys) i ≡ has (drop (cond b (suc n) 0) (y ∷ ys)) i
above_by true x i y n ys is less e = ap (λ t. t || has ys i) (ne_eqb y i (λ same. omega (arith, same, ltb-true y x is))) ∙ e
above_by false x i y n ys is less e = refl

-- those that are greater are behind
above_has : (x i : ℕ) (ys : List ℕ) → x < i → has ys i ≡ has (drop (lead x ys) ys) i
above_has x i [] less = refl
above_has x i (y ∷ ys) less = above_by (nat_lt y x) x i y (lead x ys) ys refl less (above_has x i ys less)

-- ---- what others leave

in_tail : (n x i : ℕ) (xs : List ℕ) → AscendFrom (x + 1) xs → has xs i ≡ true → x < i
in_tail n x i xs up e = by (nat_lt x i) refl
  where
    by : (b : Bool) → nat_lt x i ≡ b → x < i
    by true is = ltb-true x i is
    by false is =
        let never : false ≡ true = sym (below_first (x + 1) xs i up (let le = ltb-false x i is in omega arith)) ∙ e in
        cc

left_up_by : (b : Bool) (n x : ℕ) (w : List ℕ) → n ≤ x → AscendFrom (x + 1) w → AscendFrom n (cond b w (x ∷ w))
left_up_by true n x w le up = lower_ids (x + 1) n w (omega arith) up
left_up_by false n x w le up = (le, up)

left_ascends : (n : ℕ) (others xs : List ℕ) → AscendFrom n xs → AscendFrom n (left_by others xs)
left_ascends n others [] up = tt
left_ascends n others (x ∷ xs) up =
    let rest = drop (lead x others) others in
    left_up_by (begins x rest) n x (left_by rest xs) up.0 (left_ascends (x + 1) rest xs up.1)

-- of the first id, of the ids behind it, and of another
here_by : (b : Bool) (x i : ℕ) (w : List ℕ) (other mine : Bool) → x ≡ i → other ≡ b → mine ≡ false → has w i ≡ (not b && mine) → has (cond b w (x ∷ w)) i ≡ (not other && ((x == i) || mine))
here_by true x i w other mine same is none e = e ∙ sym (ap (λ t. not t && ((x == i) || mine)) is)
here_by false x i w other mine same is none e = ap (λ t. t || has w i) (eq-eqb x i same) ∙ sym (ap (λ t. not t && ((x == i) || mine)) is ∙ ap (λ t. t || mine) (eq-eqb x i same))

there_by : (b : Bool) (x i : ℕ) (w : List ℕ) (other mine : Bool) → (x == i) ≡ false → has w i ≡ (not other && mine) → has (cond b w (x ∷ w)) i ≡ (not other && ((x == i) || mine))
there_by true x i w other mine ne e = e ∙ sym (ap (λ t. not other && (t || mine)) ne)
there_by false x i w other mine ne e = ap (λ t. t || has w i) ne ∙ e ∙ sym (ap (λ t. not other && (t || mine)) ne)

and_none : (b c : Bool) → (not b && false) ≡ (not c && false)
and_none true true = refl
and_none true false = refl
and_none false true = refl
and_none false false = refl

-- the other ids that matter are the same
same_others : (a x i : ℕ) (others xs : List ℕ) → AscendFrom (x + 1) xs → (not (has (drop (lead x others) others) i) && has xs i) ≡ (not (has others i) && has xs i)
same_others a x i others xs up = by (has xs i) refl
  where
    by : (b : Bool) → has xs i ≡ b → (not (has (drop (lead x others) others) i) && has xs i) ≡ (not (has others i) && has xs i)
    by true is = ap (λ t. not t && has xs i) (sym (above_has x i others (in_tail 0 x i xs up is)))
    by false is = ap (λ t. not (has (drop (lead x others) others) i) && t) is ∙ and_none (has (drop (lead x others) others) i) (has others i) ∙ sym (ap (λ t. not (has others i) && t) is)

left_has : (a n : ℕ) (others xs : List ℕ) (i : ℕ) → AscendFrom a others → AscendFrom n xs → has (left_by others xs) i ≡ (not (has others i) && has xs i)
left_has a n others [] i to up = and_false (has others i)
  where
    and_false : (b : Bool) → false ≡ (not b && false)
    and_false true = refl
    and_false false = refl
left_has a n others (x ∷ xs) i to up =
    let rest = drop (lead x others) others in
    let w = left_by rest xs in
    let more : has w i ≡ (not (has rest i) && has xs i) = left_has a (x + 1) rest xs i (behind_ascends a x others to) up.1 in
    ⊎_elim
    (λ (e : (x == i) ≡ true).
    let same : x ≡ i = eqb-true x i e in
    let none : has xs i ≡ false = below_first (x + 1) xs i up.1 (omega (arith, same)) in
    let other : has others i ≡ begins x rest = ap (has others) (sym same) ∙ begins_has a x others to in
    here_by (begins x rest) x i w (has others i) (has xs i) same other none (more ∙ ap (λ t. not (has rest i) && t) none ∙ and_none (has rest i) (begins x rest) ∙ sym (ap (λ t. not (begins x rest) && t) none)))
    (λ (e : (x == i) ≡ false). there_by (begins x rest) x i w (has others i) (has xs i) e (more ∙ same_others a x i others xs up.1))
    (cases_Bool (x == i))

pub left_by_is : (others xs : List ℕ) → AscendFrom 0 others → AscendFrom 0 xs → left_by others xs ≡ without_ids others xs
left_by_is others xs to up =
    same_members 0 0 (left_by others xs) (without_ids others xs) (left_ascends 0 others xs up) (without_ids_ascend others xs up)
    (λ i. left_has 0 0 others xs i to up ∙ sym (has_without_ids others xs i))

-- ---- two lists as one

front_by : (b : Bool) (n x m k : ℕ) (ms rest : List ℕ) → nat_lt m x ≡ b → AscendFrom n (m ∷ ms) → n ≤ x → AscendFrom (x + 1) rest → (m + 1 ≤ x → AscendFrom (m + 1) (take k ms ++ x ∷ rest))
    → AscendFrom n (take (cond b (suc k) 0) (m ∷ ms) ++ x ∷ rest)
front_by true n x m k ms rest is up le behind more = (up.0, more (let less = ltb-true m x is in omega arith))
front_by false n x m k ms rest is up le behind more = (le, behind)

front_ascends : (n x : ℕ) (more rest : List ℕ) → AscendFrom n more → n ≤ x → AscendFrom (x + 1) rest → AscendFrom n (take (lead x more) more ++ x ∷ rest)
front_ascends n x [] rest up le behind = (le, behind)
front_ascends n x (m ∷ ms) rest up le behind = front_by (nat_lt m x) n x m (lead x ms) ms rest refl up le behind (λ more. front_ascends (m + 1) x ms rest up.1 more behind)

past_by : (b : Bool) (x m k : ℕ) (ms : List ℕ) → nat_lt m x ≡ b → (m == x) ≡ false → AscendFrom (m + 1) ms → AscendFrom (x + 1) (drop k ms) → AscendFrom (x + 1) (drop (cond b (suc k) 0) (m ∷ ms))
past_by true x m k ms is ne up more = more
past_by false x m k ms is ne up more = (let le = ltb-false m x is in let differ : m ≢ x = eqb-false m x ne in omega arith, up)

or_false_left : (a b : Bool) → (a || b) ≡ false → a ≡ false
or_false_left true b e = cc
or_false_left false b e = refl

or_false_right : (a b : Bool) → (a || b) ≡ false → b ≡ false
or_false_right true b e = cc
or_false_right false b e = e

-- behind the lesser ones all are greater
past_ascends : (n x : ℕ) (more : List ℕ) → AscendFrom n more → has more x ≡ false → AscendFrom (x + 1) (drop (lead x more) more)
past_ascends n x [] up none = tt
past_ascends n x (m ∷ ms) up none =
    past_by (nat_lt m x) x m (lead x ms) ms refl (or_false_left (m == x) (has ms x) none) up.1 (past_ascends (m + 1) x ms up.1 (or_false_right (m == x) (has ms x) none))

later_none : (x i : ℕ) (more : List ℕ) → has more i ≡ false → has (drop (lead x more) more) i ≡ false
later_none x i more none = or_false_right (has (take (lead x more) more) i) (has (drop (lead x more) more) i) (sym (has_append (take (lead x more) more) (drop (lead x more) more) i) ∙ ap (λ (l : List ℕ). has l i) (take-append-drop (lead x more) more) ∙ none)

-- no id stands in both
record Apart (xs more : List ℕ) : Type 0 where
  pub none : (i : ℕ) → has xs i ≡ true → has more i ≡ false

or_true_right : (a b : Bool) → b ≡ true → (a || b) ≡ true
or_true_right true b e = refl
or_true_right false b e = e

merge_ascends : (k : ℕ) (xs more : List ℕ) → AscendFrom k xs → AscendFrom k more → Apart xs more → AscendFrom k (merge xs more)
merge_ascends k [] more up to apart = to
merge_ascends k (x ∷ xs) more up to apart =
    let rest = drop (lead x more) more in
    let behind : AscendFrom (x + 1) rest = past_ascends k x more to (apart.none x (first_has x xs)) in
    front_ascends k x more (merge xs rest) to up.0 (merge_ascends (x + 1) xs rest up.1 behind (record { none = λ i e. later_none x i more (apart.none i (or_true_right (x == i) (has xs i) e)) }))

merge_has : (xs more : List ℕ) (i : ℕ) → has (merge xs more) i ≡ (has more i || has xs i)
merge_has [] more i = sym (or_none (has more i))
merge_has (x ∷ xs) more i =
    let front = take (lead x more) more in
    let rest = drop (lead x more) more in
    has_append front (x ∷ merge xs rest) i ∙ ap (λ t. has front i || ((x == i) || t)) (merge_has xs rest i) ∙ by (has front i) (x == i) (has rest i) (has xs i)
    ∙ ap (λ t. t || ((x == i) || has xs i)) (sym (has_append front rest i) ∙ ap (λ (l : List ℕ). has l i) (take-append-drop (lead x more) more))
  where
    by : (a b c d : Bool) → a || (b || (c || d)) ≡ (a || c) || (b || d)
    by true b c d = refl
    by false true true d = refl
    by false true false d = refl
    by false false true d = refl
    by false false false d = refl

lacks_has : (xs : List ℕ) (i : ℕ) → Lacks xs i → has xs i ≡ false
lacks_has xs i lacks = by (has xs i) refl
  where
    by : (b : Bool) → has xs i ≡ b → has xs i ≡ false
    by true e = let p = place_of_id xs i e in absurd (lacks p.0 p.1 p.2)
    by false e = e

new_apart : (ids xs : List ℕ) (i : ℕ) → AreNew xs ids → has ids i ≡ true → has xs i ≡ false
new_apart [] xs i new e = cc
new_apart (id ∷ ids) xs i new e = ⊎_elim
    (λ (a : (id == i) ≡ true). ap (has xs) (sym (eqb-true id i a)) ∙ lacks_has xs id new.0)
    (λ (b : (id == i) ≡ false). or_false_right (id == i) (has xs i) (sym (has_with id xs i) ∙ new_apart ids (with_id id xs) i new.1 (sym (ap (λ t. t || has ids i) b) ∙ e)))
    (cases_Bool (id == i))

pub merge_is : (xs more : List ℕ) → AscendFrom 0 xs → AscendFrom 0 more → AreNew xs more → merge xs more ≡ with_ids more xs
merge_is xs more up to new =
    same_members 0 0 (merge xs more) (with_ids more xs)
    (merge_ascends 0 xs more up to (record { none = λ i e. false_from_ne_true (has more i) (λ there. false_true (has xs i) (new_apart more xs i new there) e) }))
    (with_ids_ascend more xs up new)
    (λ i. merge_has xs more i ∙ sym (has_with_ids more xs i))
