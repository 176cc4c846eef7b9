-- The live rows of slots, as one of them is filled or emptied.
use Rattle.std.proofs.Common.{◌≡◌, ℕ, ◌+◌, ◌<◌, zero, suc, cond, List, [], ◌∷◌, ◌++◌, length, set, Option, Some, None, option_map, refl, sym, ap, ◌∙◌, subst, arith}
use Rattle.std.specs.Prelude.{not}
use Rattle.arti_tree.specs.declared.slot.Slot.{Slot}
use Rattle.arti_tree.specs.Rows.{Row, row_of, with_row, without_row, RowsFrom}
use Rattle.arti_tree.specs.Slots.{at, row_with, live}
use Rattle.arti_tree.proofs.RowLists.{lower, none_below, first_row, keeps_rows}
use Rattle.std.proofs.lemmas.Bool.{le-ltb, eq-eqb, ne_eqb}

pub live_from : (n : ℕ) (slots : List (Option Slot)) → RowsFrom n (live n slots)
live_from n [] = tt
live_from n (None ∷ slots) = lower (n + 1) n (live (n + 1) slots) (omega arith) (live_from (n + 1) slots)
live_from n (Some s ∷ slots) = (omega arith, live_from (n + 1) slots)

shifted : (n i : ℕ) → (n + 1) + i ≡ n + suc i
shifted n i = omega arith

-- what is kept under an id is the row of the id
pub live_at : (n i : ℕ) (slots : List (Option Slot)) → row_of (live n slots) (n + i) ≡ option_map (row_with (n + i)) (at slots i)
live_at n i [] = refl
live_at n zero (None ∷ slots) = none_below (n + 1) (live (n + 1) slots) (n + 0) (live_from (n + 1) slots) (omega arith)
live_at n zero (Some s ∷ slots) =
    let e : n ≡ n + 0 = omega arith in
    ap (λ b. cond b (Some (row_with n s)) (row_of (live (n + 1) slots) (n + 0))) (eq-eqb n (n + 0) e) ∙ ap (λ k. Some (row_with k s)) e
live_at n (suc i) (None ∷ slots) = subst (λ (k : ℕ). row_of (live (n + 1) slots) k ≡ option_map (row_with k) (at slots i)) (shifted n i) (live_at (n + 1) i slots)
live_at n (suc i) (Some s ∷ slots) =
    ap (λ b. cond b (Some (row_with n s)) (row_of (live (n + 1) slots) (n + suc i))) (ne_eqb n (n + suc i) (λ e. omega arith))
    ∙ subst (λ (k : ℕ). row_of (live (n + 1) slots) k ≡ option_map (row_with k) (at slots i)) (shifted n i) (live_at (n + 1) i slots)

pub row_of_live : (id : ℕ) (slots : List (Option Slot)) → row_of (live 0 slots) id ≡ option_map (row_with id) (at slots id)
row_of_live id slots = let e : 0 + id ≡ id = omega arith in subst (λ (k : ℕ). row_of (live 0 slots) k ≡ option_map (row_with k) (at slots id)) e (live_at 0 id slots)

behind_first : (n m : ℕ) (s t : Slot) (l : List Row) → n < m → with_row (row_with m s) (row_with n t ∷ l) ≡ row_with n t ∷ with_row (row_with m s) l
behind_first n m s t l less = ap (λ b. cond b (row_with m s ∷ row_with n t ∷ l) (row_with n t ∷ with_row (row_with m s) l)) (le-ltb m n (omega arith))

-- an empty slot is filled
pub live_filled : (n i : ℕ) (slots : List (Option Slot)) (s : Slot) → i < length slots → at slots i ≡ None → live n (set slots i (Some s)) ≡ with_row (row_with (n + i) s) (live n slots)
live_filled n i [] s below none = absurd (omega arith)
live_filled n zero (None ∷ slots) s below none =
    let e : n ≡ n + 0 = omega arith in
    ap (λ k. row_with k s ∷ live (n + 1) slots) e ∙ sym (first_row (n + 1) (row_with (n + 0) s) (live (n + 1) slots) (live_from (n + 1) slots) (omega arith))
live_filled n zero (Some t ∷ slots) s below none = cc
live_filled n (suc i) (None ∷ slots) s below none =
    live_filled (n + 1) i slots s (omega arith) none ∙ ap (λ k. with_row (row_with k s) (live (n + 1) slots)) (shifted n i)
live_filled n (suc i) (Some t ∷ slots) s below none =
    ap (λ l. row_with n t ∷ l) (live_filled (n + 1) i slots s (omega arith) none ∙ ap (λ k. with_row (row_with k s) (live (n + 1) slots)) (shifted n i))
    ∙ sym (behind_first n (n + suc i) s t (live (n + 1) slots) (omega arith))

-- a slot more
pub live_pushed : (n : ℕ) (slots : List (Option Slot)) (s : Slot) → live n (slots ++ Some s ∷ []) ≡ with_row (row_with (n + length slots) s) (live n slots)
live_pushed n [] s = let e : n ≡ n + 0 = omega arith in ap (λ k. row_with k s ∷ []) e
live_pushed n (None ∷ slots) s = live_pushed (n + 1) slots s ∙ (let e : (n + 1) + length slots ≡ n + length (None ∷ slots) = omega arith in ap (λ k. with_row (row_with k s) (live (n + 1) slots)) e)
live_pushed n (Some t ∷ slots) s =
    let e : (n + 1) + length slots ≡ n + length (Some t ∷ slots) = omega arith in
    ap (λ l. row_with n t ∷ l) (live_pushed (n + 1) slots s ∙ ap (λ k. with_row (row_with k s) (live (n + 1) slots)) e)
    ∙ sym (behind_first n (n + length (Some t ∷ slots)) s t (live (n + 1) slots) (omega arith))

-- a slot is emptied
pub live_emptied : (n i : ℕ) (slots : List (Option Slot)) → i < length slots → live n (set slots i None) ≡ without_row (n + i) (live n slots)
live_emptied n i [] below = absurd (omega arith)
live_emptied n zero (None ∷ slots) below = sym (keeps_rows (n + 0) (n + 1) (live (n + 1) slots) (live_from (n + 1) slots) (omega arith))
live_emptied n zero (Some s ∷ slots) below =
    sym (ap (λ b. cond (not b) (row_with n s ∷ without_row (n + 0) (live (n + 1) slots)) (without_row (n + 0) (live (n + 1) slots))) (eq-eqb n (n + 0) (omega arith)) ∙ keeps_rows (n + 0) (n + 1) (live (n + 1) slots) (live_from (n + 1) slots) (omega arith))
live_emptied n (suc i) (None ∷ slots) below = live_emptied (n + 1) i slots (omega arith) ∙ ap (λ k. without_row k (live (n + 1) slots)) (shifted n i)
live_emptied n (suc i) (Some s ∷ slots) below =
    ap (λ l. row_with n s ∷ l) (live_emptied (n + 1) i slots (omega arith) ∙ ap (λ k. without_row k (live (n + 1) slots)) (shifted n i))
    ∙ sym (ap (λ b. cond (not b) (row_with n s ∷ without_row (n + suc i) (live (n + 1) slots)) (without_row (n + suc i) (live (n + 1) slots))) (ne_eqb n (n + suc i) (λ e. omega arith)))
