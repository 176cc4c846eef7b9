-- A tree with one row less.
use Rattle.std.proofs.Common.{◌≡◌, ◌≢◌, ℕ, ◌+◌, ◌<◌, zero, suc, Bool, true, false, cond, eqb, List, [], ◌∷◌, length, get_or, take, drop, Option, Some, None, refl, sym, ap, ◌∙◌, subst, arith}
use Rattle.std.specs.Prelude.{◌==◌, All, nat_eq}
use Rattle.std.specs.List.{filter, find, count_by, remove}
use Rattle.std.specs.Cmp.Lexicographic.{pointwise}
use Rattle.std.proofs.lemmas.Bool.{eqb-true}
use Rattle.std.proofs.lemmas.List.Elements.{All-append, All-take, All-drop}
use Rattle.std.proofs.lemmas.List.Edits.{length-remove}
use Rattle.std.proofs.lemmas.List.Sums.{sum_by-remove}
use Rattle.arti_rows.specs.Key.{Key, same_key}
use Rattle.arti_tree.specs.declared.slot.Slot.{Slot}
use Rattle.arti_tree.specs.Ids.{without_id}
use Rattle.arti_tree.specs.Rows.{Row, ids, row_of, row_at, has_folder, folder_of, folder_id, lies_in, is_of, without_row, IsLive, IsTree}
use Rattle.arti_tree.specs.Slots.{at, row_with, live, is_it}
use Rattle.arti_tree.specs.Kept.{inside, Ordered, Kept}
use Rattle.arti_tree.proofs.RowLists.{rows_from_without, ids_without, find_without, still_none, gone, filter_without, filter_skips, taken_at}
use Rattle.arti_tree.proofs.Rises.{found_passes, found_live, rising_remove, others_differ}
use Rattle.arti_tree.proofs.Folders.{filter_none, none_passes, lies, lies_by_id}
use Rattle.arti_tree.proofs.Looks.{no_row, live_in}
use Rattle.arti_rows.specs.KeyLaws.{same_key-true}

pub ids_remove : (rows : List Row) (i : ℕ) → ids (remove rows i) ≡ remove (ids rows) i
ids_remove [] zero = refl
ids_remove [] (suc i) = refl
ids_remove (x ∷ rows) zero = refl
ids_remove (x ∷ rows) (suc i) = ap (λ (l : List ℕ). x.id ∷ l) (ids_remove rows i)

none_some : {o : Option Row} {x : Row} → o ≡ None → o ≡ Some x → ⊥
none_some {o} {x} n s = let e : None ≡ Some x = sym n ∙ s in cc

some_same : (x y : Row) → Some x ≡ Some y → x ≡ y
some_same x y e = cc

taken_off : (a b c : ℕ) → a + c ≡ b → (d e : ℕ) → d + c ≡ e → b ≡ e → a ≡ d
taken_off a b c p d e q same = omega arith

module _ (rows : List Row) (r : Row) (tree : IsTree rows) (live : IsLive rows r) (empty : find (lies_in r.key) rows ≡ None) where
  abbrev less : List Row
  less = without_row r.id rows

  -- a row of the id is this one
  one_row : (x : Row) → IsLive rows x → x.id ≡ r.id → x ≡ r
  one_row x was same = some_same x r (sym was ∙ ap (row_of rows) same ∙ live)

  was_other : (x : Row) → IsLive less x → x.id ≢ r.id
  was_other x is e = none_some (subst (λ (i : ℕ). row_of less i ≡ None) (sym e) (gone r.id rows)) is

  was_by : (x : Row) (o : Option Row) → IsLive less x → row_of rows x.id ≡ o → IsLive rows x
  was_by x None is was = absurd (none_some (still_none (λ y. eqb y.id x.id) r.id rows was) is)
  was_by x (Some y) is was =
      let same : y.id ≡ x.id = eqb-true y.id x.id (found_passes (λ z. eqb z.id x.id) rows y was) in
      let kept : row_of less x.id ≡ Some y = find_without (λ z. eqb z.id x.id) r.id y rows was (λ e. was_other x is (sym same ∙ e)) in
      was ∙ sym kept ∙ is

  pub was_live : (x : Row) → IsLive less x → IsLive rows x
  was_live x is = was_by x (row_of rows x.id) is refl

  pub still_live : (x : Row) → IsLive rows x → x.id ≢ r.id → IsLive less x
  still_live x was ne = find_without (λ z. eqb z.id x.id) r.id x rows was ne

  still_at : (k : Key) (x : Row) → row_at rows k ≡ Some x → x.id ≢ r.id → row_at less k ≡ Some x
  still_at k x is ne = find_without (λ z. same_key z.key k) r.id x rows is ne

  -- the folder of a row that is left isn't the one that goes
  other_folder : (x f : Row) → IsLive rows x → has_folder x.key ≡ true → row_at rows (folder_of x.key) ≡ Some f → f.id ≢ r.id
  other_folder x f was has there e =
      let f_live : IsLive rows f = found_live (λ z. same_key z.key (folder_of x.key)) 0 rows f tree.ascend there in
      let same : f ≡ r = one_row f f_live e in
      let f_key : f.key ≡ folder_of x.key = same_key-true f.key (folder_of x.key) (found_passes (λ z. same_key z.key (folder_of x.key)) rows f there) in
      let lies_here : lies_in r.key x ≡ true = subst (λ (k : Key). lies_in k x ≡ true) (sym f_key ∙ ap (λ (y : Row). y.key) same) (lies x has) in
      none_passes (lies_in r.key) rows x empty was lies_here

  long_less : length less + 1 ≡ length rows
  long_less = let t = taken_at r.id 0 r rows tree.ascend live in omega (arith, ap (λ (l : List Row). length l) t.is, length-remove rows t.place t.within)

  pub tree_less : IsTree less
  tree_less = record {
    ascend = rows_from_without 0 r.id rows tree.ascend;
    few = omega (arith, long_less, tree.few);
    keys = λ x is. tree.keys x (was_live x is);
    differ = λ x is. still_at x.key x (tree.differ x (was_live x is)) (was_other x is);
    folders = λ x is has. let f = tree.folders x (was_live x is) has in record { row = f.row; there = still_at (folder_of x.key) f.row f.there (other_folder x f.row (was_live x is) has f.there); folder = f.folder };
  }

  module _ (order : List ℕ) (ordered : Ordered rows order) (i : ℕ) (below : i < length ordered.sorted) (at_i : get_or ordered.sorted i no_row ≡ r) where
    pub order_less : Ordered less (remove order i)
    order_less =
        let P : Row → Type 0 = IsLive rows in
        let all : All P (remove ordered.sorted i) = All-append P (take i ordered.sorted) (drop (suc i) ordered.sorted) (All-take P i ordered.sorted ordered.live) (All-drop P (suc i) ordered.sorted ordered.live) in
        let others = others_differ r no_row ordered.sorted i ordered.rising below at_i in
        record {
          sorted = remove ordered.sorted i;
          is = ap (λ l. remove l i) ordered.is ∙ sym (ids_remove ordered.sorted i);
          live = λ k d within. let x = get_or (remove ordered.sorted i) k d in still_live x (all k d within) (λ e. others k d within (ap (λ (y : Row). y.key) (one_row x (all k d within) e)));
          same = λ test. let t = taken_at r.id 0 r rows tree.ascend live in let f : Row → ℕ = λ x. cond (test x) 1 0 in
              taken_off (count_by test (remove ordered.sorted i)) (count_by test ordered.sorted) (f r) (ap (λ (y : Row). count_by test (remove ordered.sorted i) + f y) (sym at_i) ∙ sum_by-remove f ordered.sorted i no_row below)
              (count_by test less) (count_by test rows) (ap (λ (y : Row). count_by test less + f y) (sym t.there) ∙ ap (λ (l : List Row). count_by test l + f (get_or rows t.place r)) t.is ∙ sum_by-remove f rows t.place r t.within) (ordered.same test);
          rising = rising_remove ordered.sorted i ordered.rising;
        }

  list_by : (b t : Bool) (p : Row → Bool) → p r ≡ b → b ≡ t → ids (filter p less) ≡ cond t (without_id r.id (ids (filter p rows))) (ids (filter p rows))
  list_by true t p is same = filter_without p r.id rows ∙ ap (λ c. cond c (without_id r.id (ids (filter p rows))) (ids (filter p rows))) same
  list_by false t p is same = ap ids (filter_skips p r.id 0 r rows tree.ascend live is) ∙ ap (λ c. cond c (without_id r.id (ids (filter p rows))) (ids (filter p rows))) same

  pub list_less : (t : Bool) (p : Row → Bool) → p r ≡ t → ids (filter p less) ≡ cond t (without_id r.id (ids (filter p rows))) (ids (filter p rows))
  list_less t p is = list_by (p r) t p refl is

empty_either : (b : Bool) (id : ℕ) (l : List ℕ) → l ≡ [] → cond b (without_id id l) l ≡ []
empty_either true id l e = ap (without_id id) e
empty_either false id l e = e

module _ (slots less_slots : List (Option Slot)) (s : Slot) (id : ℕ) (all order : List ℕ) (lists less_lists : ℕ → List ℕ) (repos less_repos : List ℕ → List ℕ) (kept : Kept slots all order lists repos)
    (there : at slots id ≡ Some s) (empty : find (lies_in s.key) (live 0 slots) ≡ None) where
  abbrev rows : List Row
  rows = live 0 slots

  abbrev old : Row
  old = row_with id s

  is_live : IsLive rows old
  is_live = live_in slots id s there

  module _ (is_less : live 0 less_slots ≡ without_row id rows)
      (slots_are : (i : ℕ) → at less_slots i ≡ cond (i == id) None (at slots i))
      (lists_are : (i : ℕ) → less_lists i ≡ cond (is_it (folder_id rows s.key) i) (without_id id (lists i)) (lists i)) where
    children_by : (i : ℕ) (b : Bool) (o : Option Slot) → eqb i id ≡ b → at slots i ≡ o → less_lists i ≡ inside (without_row id rows) (cond b None o)
    children_by i true o same was =
        let e : id ≡ i = sym (eqb-true i id same) in
        let none : lists i ≡ [] = kept.children_are i ∙ ap (λ (j : ℕ). inside rows (at slots j)) (sym e) ∙ ap (inside rows) there ∙ ap ids (filter_none (lies_in s.key) rows empty) in
        lists_are i ∙ empty_either (is_it (folder_id rows s.key) i) id (lists i) none
    children_by i false None same was =
        let none : lists i ≡ [] = kept.children_are i ∙ ap (inside rows) was in
        lists_are i ∙ empty_either (is_it (folder_id rows s.key) i) id (lists i) none
    children_by i false (Some t) same was =
        let x : Row = row_with i t in
        lists_are i ∙ ap (λ l. cond (is_it (folder_id rows s.key) i) (without_id id l) l) (kept.children_are i ∙ ap (inside rows) was)
        ∙ sym (list_less rows old kept.tree is_live empty (is_it (folder_id rows s.key) i) (lies_in t.key) (lies_by_id rows old kept.tree x (live_in slots i t was)))

    children_less : (i : ℕ) → less_lists i ≡ inside (live 0 less_slots) (at less_slots i)
    children_less i = children_by i (eqb i id) (at slots i) refl refl ∙ sym (ap (λ (l : List Row). inside l (cond (i == id) None (at slots i))) is_less) ∙ sym (ap (inside (live 0 less_slots)) (slots_are i))

    -- each list is kept
    pub kept_less : (less_all less_order : List ℕ) → less_all ≡ without_id id all → Ordered (without_row id rows) less_order
        → ((q : List ℕ) → less_repos q ≡ cond (pointwise nat_eq q s.key.repo) (without_id id (repos q)) (repos q)) → Kept less_slots less_all less_order less_lists less_repos
    kept_less less_all less_order all_is ordered repos_are = record {
      tree = subst IsTree (sym is_less) (tree_less rows old kept.tree is_live empty);
      all_is = all_is ∙ ap (without_id id) kept.all_is ∙ sym (ids_without id rows) ∙ sym (ap ids is_less);
      order_is = subst (λ (l : List Row). Ordered l less_order) (sym is_less) ordered;
      children_are = children_less;
      repos_are = λ q. repos_are q ∙ ap (λ (l : List ℕ). cond (pointwise nat_eq q s.key.repo) (without_id id l) l) (kept.repos_are q)
          ∙ sym (ap (λ (l : List Row). ids (filter (is_of q) l)) is_less ∙ list_less rows old kept.tree is_live empty (pointwise nat_eq q s.key.repo) (is_of q) refl);
    }
