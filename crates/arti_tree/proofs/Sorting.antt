-- Ids each of which stands once, in order.
use Rattle.std.proofs.Common.{◌≡◌, ℕ, ◌+◌, ◌<◌, ◌≤◌, suc, Bool, true, false, cond, eqb, ◌||◌, List, [], ◌∷◌, length, get_or, refl, sym, ap, ◌∙◌, subst, arith}
use Rattle.std.specs.Prelude.{nat_lt}
use Rattle.std.specs.List.{sum_by}
use Rattle.std.specs.List.Sorted.{IsPermutation, IsSorted}
use Rattle.std.specs.Ordering.{nat_cmp}
use Rattle.std.proofs.lemmas.Bool.{eqb-true, eqb-false, eq-eqb, ltb-false, lt-ltb, le-ltb}
use Rattle.std.proofs.lemmas.List.Sums.{sum_by-cons}
use Rattle.std.proofs.lemmas.List.Sorted.{sum_by-IsPermutation}
use Rattle.std.proofs.lemmas.Map.Keys.{ge_from_not_lt}
use Rattle.arti_tree.specs.Ids.{AscendFrom}
use Rattle.arti_tree.specs.Rows.{Row}
use Rattle.arti_tree.specs.Renames.{has, Once, AreWithin}
use Rattle.arti_rows.specs.Key.{Key}

module _ (i : ℕ) where
  abbrev weight : ℕ → ℕ
  weight x = cond (eqb x i) 1 0

  -- how often an id stands there
  abbrev times : List ℕ → ℕ
  times xs = sum_by weight xs

  has_by : (b : Bool) (n : ℕ) (h : Bool) → h ≡ nat_lt 0 n → (b || h) ≡ nat_lt 0 (cond b 1 0 + n)
  has_by true n h e = sym (lt-ltb 0 (1 + n) (omega arith))
  has_by false n h e = e ∙ ap (nat_lt 0) (let z : n ≡ 0 + n = omega arith in z)

  has_times : (xs : List ℕ) → has xs i ≡ nat_lt 0 (times xs)
  has_times [] = refl
  has_times (x ∷ xs) = has_by (eqb x i) (times xs) (has xs i) (has_times xs) ∙ ap (nat_lt 0) (sym (sum_by-cons weight x xs))

  none_times : (xs : List ℕ) → has xs i ≡ false → times xs ≡ 0
  none_times xs e = let le : times xs ≤ 0 = ltb-false 0 (times xs) (sym (has_times xs) ∙ e) in omega (arith, le)

  once_times : (xs : List ℕ) → Once xs → times xs ≤ 1
  once_times [] o = omega arith
  once_times (x ∷ xs) o = by (eqb x i) refl (once_times xs o.1)
    where
      by : (b : Bool) → eqb x i ≡ b → times xs ≤ 1 → times (x ∷ xs) ≤ 1
      by true e rest =
          let none : times xs ≡ 0 = none_times xs (ap (has xs) (sym (eqb-true x i e)) ∙ o.0) in
          let w : weight x ≡ 1 = ap (λ b. cond b 1 0) e in
          omega (arith, none, w, sum_by-cons weight x xs)
      by false e rest =
          let w : weight x ≡ 0 = ap (λ b. cond b 1 0) e in
          omega (arith, rest, w, sum_by-cons weight x xs)

once_from : (xs : List ℕ) → ((i : ℕ) → times i xs ≤ 1) → Once xs
once_from [] few = tt
once_from (x ∷ xs) few = (
  let w : weight x x ≡ 1 = ap (λ b. cond b 1 0) (eq-eqb x x refl) in
      let none : times x xs ≤ 0 = omega (arith, few x, w, sum_by-cons (weight x) x xs) in
      has_times x xs ∙ le-ltb 0 (times x xs) none,
  once_from xs (λ i. omega (arith, few i, sum_by-cons (weight i) x xs)),
)

ascend_sorted : (n x : ℕ) (xs : List ℕ) → n ≤ x → ((k : ℕ) → suc k < length (x ∷ xs) → get_or (x ∷ xs) k 0 ≤ get_or (x ∷ xs) (suc k) 0) → Once (x ∷ xs) → AscendFrom n (x ∷ xs)
ascend_sorted n x [] le up o = (le, tt)
ascend_sorted n x (y ∷ xs) le up o =
    (le, ascend_sorted (x + 1) y xs (next (eqb y x) refl) (λ k below. up (suc k) (omega (arith, below))) o.1)
  where
    next : (b : Bool) → eqb y x ≡ b → x + 1 ≤ y
    next true e = let never : true ≡ false = ap (λ b. b || has xs x) (sym e) ∙ o.0 in cc
    next false e = grind (arith, up 0 (omega arith), eqb-false y x e)

pub within_sorted : (rows : List Row) (from : Key) (xs ys : List ℕ) → AreWithin rows from xs → IsPermutation xs ys → AreWithin rows from ys
within_sorted rows from xs ys w p = record {
  once = once_from ys (λ i. omega (arith, sum_by-IsPermutation (weight i) xs ys p, once_times i xs w.once));
  each = λ i. has_times i ys ∙ ap (nat_lt 0) (sum_by-IsPermutation (weight i) xs ys p) ∙ sym (has_times i xs) ∙ w.each i;
}

pub ascends_sorted : (xs : List ℕ) → Once xs → IsSorted nat_cmp xs → AscendFrom 0 xs
ascends_sorted [] o sorted = tt
ascends_sorted (x ∷ xs) o sorted = ascend_sorted 0 x xs (omega arith) (λ k below.
    let next : k + 1 ≡ suc k = omega arith in
    subst (λ (m : ℕ). get_or (x ∷ xs) k 0 ≤ get_or (x ∷ xs) m 0) next (ge_from_not_lt (get_or (x ∷ xs) (k + 1) 0) (get_or (x ∷ xs) k 0) (sorted k 0 (omega arith) (omega (arith, below))))) o
