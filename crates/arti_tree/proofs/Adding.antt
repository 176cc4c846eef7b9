-- What the kept lists say before a row is added.
use Rattle.std.proofs.Common.{◌≡◌, ◌≢◌, ℕ, ◌+◌, ◌-◌, ◌<◌, ◌≤◌, ◌⊎◌, ⊎_elim, zero, suc, Bool, true, false, cond, eqb, List, [], ◌∷◌, length, get_or, Option, Some, None, option_map, refl, sym, ap, ◌∙◌, subst, arith, Less, Greater}
use Rattle.std.specs.Prelude.{IfSome}
use Rattle.std.specs.List.{filter, insert}
use Rattle.std.proofs.lemmas.Bool.{eqb-false, ne_eqb}
use Rattle.std.proofs.lemmas.List.{length-map}
use Rattle.arti_rows.specs.Key.{Key, key_cmp, same_key}
use Rattle.arti_tree.specs.declared.slot.Slot.{Slot}
use Rattle.arti_tree.specs.Ids.{AscendFrom, IsNext, Lacks}
use Rattle.arti_tree.specs.Rows.{Row, ids, row_of, row_at, has_folder, folder_of, folder_id, lies_in, is_of, with_row, RowsFrom}
use Rattle.arti_tree.specs.Slots.{at, row_with, live, key_at}
use Rattle.arti_tree.specs.Kept.{inside, Ordered, Kept}
use Rattle.arti_tree.proofs.RowLists.{cond_none, filtered_ascend, ids_ascend}
use Rattle.arti_tree.proofs.Rises.{found_live}
use Rattle.arti_tree.proofs.Lives.{row_of_live}
use Rattle.arti_tree.proofs.Looks.{kept_as, slot_within, before_there, behind_there, no_row}
use Rattle.arti_tree.proofs.Growing.{Fresh, order_more}
use Rattle.arti_rows.specs.KeyLaws.{key_cmp-Greater}

-- an id that no row has
pub lacks_row : (rows : List Row) (id : ℕ) → Lacks (ids rows) id → row_of rows id ≡ None
lacks_row [] id lacks = refl
lacks_row (x ∷ rows) id lacks = ap (λ b. cond b (Some x) (row_of rows id)) (ne_eqb x.id id (lacks 0 (omega arith))) ∙ lacks_row rows id (λ k h. lacks (suc k) (omega arith))

eq_from_false : (a b : ℕ) → eqb a b ≡ false → a ≢ b
eq_from_false a b e = eqb-false a b e

pub row_lacks : (rows : List Row) (id : ℕ) → row_of rows id ≡ None → Lacks (ids rows) id
row_lacks [] id none k below = absurd (omega arith)
row_lacks (x ∷ rows) id none zero below = eq_from_false x.id id (cond_none (eqb x.id id) x (row_of rows id) none).0
row_lacks (x ∷ rows) id none (suc k) below = row_lacks rows id (cond_none (eqb x.id id) x (row_of rows id) none).1 k (omega arith)

lacks_by : (b : Bool) (x : Row) (l : List Row) (id : ℕ) → x.id ≢ id → Lacks (ids l) id → Lacks (ids (cond b (x ∷ l) l)) id
lacks_by true x l id ne lacks zero below = ne
lacks_by true x l id ne lacks (suc k) below = lacks k (omega arith)
lacks_by false x l id ne lacks k below = lacks k below

pub filter_lacks : (p : Row → Bool) (rows : List Row) (id : ℕ) → row_of rows id ≡ None → Lacks (ids (filter p rows)) id
filter_lacks p [] id none = λ k below. absurd (omega arith)
filter_lacks p (x ∷ rows) id none =
    let parts = cond_none (eqb x.id id) x (row_of rows id) none in
    lacks_by (p x) x (filter p rows) id (eq_from_false x.id id parts.0) (filter_lacks p rows id parts.1)

inside_ascends : (rows : List Row) (o : Option Slot) → RowsFrom 0 rows → AscendFrom 0 (inside rows o)
inside_ascends rows None up = tt
inside_ascends rows (Some s) up = filtered_ascend (lies_in s.key) 0 rows up

inside_lacks : (rows : List Row) (o : Option Slot) (id : ℕ) → row_of rows id ≡ None → Lacks (inside rows o) id
inside_lacks rows None id none = λ k below. absurd (omega arith)
inside_lacks rows (Some s) id none = filter_lacks (lies_in s.key) rows id none

none_map : (id : ℕ) (o : Option Slot) → option_map (row_with id) o ≡ None → o ≡ None
none_map id None e = refl
none_map id (Some s) e = cc

module _ (slots : List (Option Slot)) (all order : List ℕ) (lists : ℕ → List ℕ) (repos : List ℕ → List ℕ) (kept : Kept slots all order lists repos) where
  abbrev rows : List Row
  rows = live 0 slots

  pub all_ascend : AscendFrom 0 all
  all_ascend = subst (λ (l : List ℕ). AscendFrom 0 l) (sym kept.all_is) (ids_ascend 0 rows kept.tree.ascend)

  pub all_long : length all ≡ length rows
  all_long = ap length kept.all_is ∙ length-map rows (λ (r : Row). r.id)

  pub children_ascend : (i : ℕ) → AscendFrom 0 (lists i)
  children_ascend i = subst (λ (l : List ℕ). AscendFrom 0 l) (sym (kept.children_are i)) (inside_ascends rows (at slots i) kept.tree.ascend)

  pub repo_ascends : (q : List ℕ) → AscendFrom 0 (repos q)
  repo_ascends q = subst (λ (l : List ℕ). AscendFrom 0 l) (sym (kept.repos_are q)) (filtered_ascend (is_of q) 0 rows kept.tree.ascend)

  pub free_row : (id : ℕ) → Lacks all id → row_of rows id ≡ None
  free_row id lacks = lacks_row rows id (subst (λ (l : List ℕ). Lacks l id) kept.all_is lacks)

  pub free_slot : (id : ℕ) → Lacks all id → at slots id ≡ None
  free_slot id lacks = none_map id (at slots id) (sym (row_of_live id slots) ∙ free_row id lacks)

  pub children_lack : (id i : ℕ) → Lacks all id → Lacks (lists i) id
  children_lack id i lacks = subst (λ (l : List ℕ). Lacks l id) (sym (kept.children_are i)) (inside_lacks rows (at slots i) id (free_row id lacks))

  pub repo_lacks : (id : ℕ) (q : List ℕ) → Lacks all id → Lacks (repos q) id
  repo_lacks id q lacks = subst (λ (l : List ℕ). Lacks l id) (sym (kept.repos_are q)) (filter_lacks (is_of q) rows id (free_row id lacks))

  -- the slots reach up to a free id
  live_below : (k n : ℕ) → k < length all → get_or all k 0 ≡ n → n < length slots
  live_below k n below is = by_slot (at slots n) refl
    where
      by_slot : (o : Option Slot) → at slots n ≡ o → n < length slots
      by_slot None e =
          let none : row_of rows n ≡ None = row_of_live n slots ∙ ap (option_map (row_with n)) e in
          let lacks : Lacks all n = subst (λ (l : List ℕ). Lacks l n) (sym kept.all_is) (row_lacks rows n none) in
          absurd (lacks k below is)
      by_slot (Some s) e = slot_within slots n s e

  pub id_within : (id : ℕ) → (id ≡ 0) ⊎ ((0 < length all) × (id ≤ get_or all (length all - 1) 0 + 1)) → id ≤ length slots
  id_within id within =
      ⊎_elim (λ (e : id ≡ 0). omega (arith, e))
      (λ (h : (0 < length all) × (id ≤ get_or all (length all - 1) 0 + 1)). omega (arith, h.1, live_below (length all - 1) (get_or all (length all - 1) 0) (omega (arith, h.0)) refl)) within

  -- an id that is next behind all is so behind the rows
  pub next_row : (id : ℕ) → IsNext all id → IsNext (ids rows) id
  next_row id next = subst (λ (l : List ℕ). IsNext l id) kept.all_is next

  found_within : (o : Option Row) (k : Key) → row_at rows k ≡ o → IfSome (option_map (λ (r : Row). r.id) o) (λ f. f < length slots)
  found_within None k is = tt
  found_within (Some r) k is =
      let live = found_live (λ x. same_key x.key k) 0 rows r kept.tree.ascend is in
      let s = kept_as slots r live in
      slot_within slots r.id s.slot s.there

  folder_by : (b : Bool) (k : Key) → IfSome (cond b (option_map (λ (r : Row). r.id) (row_at rows k)) None) (λ f. f < length slots)
  folder_by true k = found_within (row_at rows k) k refl
  folder_by false k = tt

  pub folder_within : (k : Key) → IfSome (folder_id rows k) (λ f. f < length slots)
  folder_within k = folder_by (has_folder k) (folder_of k)

  -- with other lists that say the same
  pub kept_same : (new_slots : List (Option Slot)) (new_all new_order : List ℕ) (new_lists : ℕ → List ℕ) (new_repos : List ℕ → List ℕ) → new_slots ≡ slots → new_all ≡ all → new_order ≡ order
      → ((i : ℕ) → new_lists i ≡ lists i) → ((q : List ℕ) → new_repos q ≡ repos q) → Kept new_slots new_all new_order new_lists new_repos
  kept_same new_slots new_all new_order new_lists new_repos slots_are all_is order_is lists_are repos_are =
      subst (λ (s : List (Option Slot)). Kept s new_all new_order new_lists new_repos) (sym slots_are)
      record {
        tree = kept.tree;
        all_is = all_is ∙ kept.all_is;
        order_is = subst (λ (o : List ℕ). Ordered rows o) (sym order_is) kept.order_is;
        children_are = λ i. lists_are i ∙ kept.children_are i;
        repos_are = λ q. repos_are q ∙ kept.repos_are q;
      }

  -- the order with a new row at the place of its key
  module _ (k : Key) (id : ℕ) (is_file : Bool) (place : ℕ) (within : place ≤ length order)
      (before : (j : ℕ) → j < place → key_cmp (key_at slots (get_or order j 0)) k ≡ Less)
      (behind : (j : ℕ) → place ≤ j → j < length order → key_cmp (key_at slots (get_or order j 0)) k ≡ Greater)
      (fresh : Fresh rows (record { id = id; key = k; is_file = is_file })) where
    abbrev new : Row
    new = record { id = id; key = k; is_file = is_file }

    pub order_with : Ordered (with_row new rows) (insert order place id)
    order_with =
        let o = kept.order_is in
        let long : length order ≡ length o.sorted = ap length o.is ∙ length-map o.sorted (λ (r : Row). r.id) in
        order_more rows new kept.tree fresh order o place (omega (arith, long)) (before_there slots order kept.tree o k place within before behind)
        (λ j le below. key_cmp-Greater (get_or o.sorted j no_row).key k (behind_there slots order kept.tree o k place within before behind j le below))

pub if_some_more : (o : Option ℕ) (m n : ℕ) → IfSome o (λ f. f < m) → m ≤ n → IfSome o (λ f. f < n)
if_some_more None m n h le = tt
if_some_more (Some f) m n h le = omega (arith, h)
